use Rattle.std.proofs.Common.{sym, refl}
use Rattle.frames.proofs.Reading.{made_from}
use Rattle.frames.proofs.frame.Frame.of.Goals as goal

pub returns : goal.returns
returns c = sym (made_from _ _ refl)
