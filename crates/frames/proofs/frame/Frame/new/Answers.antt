use Rattle.std.proofs.Common.{ap, ◌∙◌}
use Rattle.frames.specs.Fields.{fields_of}
use Rattle.frames.specs.Made.{frame_from}
use Rattle.frames.proofs.Reading.{kind_named}
use Rattle.frames.proofs.frame.Frame.new.Goals as goal

pub returns : goal.returns
returns c = c.of.ensures ∙ ap (λ k. frame_from (fields_of k c.args.header c.args.words)) (kind_named c.args.kind _ c.in_ok-try_from.ensures)
