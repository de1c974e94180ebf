use Rattle.std.proofs.Common.{sym}
use Rattle.frames.proofs.Reading.{entry_made}
use Rattle.frames.proofs.entry.Entry.new.Goals as goal

pub returns : goal.returns
returns c = sym (entry_made _)
