use Rattle.std.proofs.Common.{◌∙◌}
use Rattle.frames.specs.Fields.{fields_of}
use Rattle.frames.specs.Made.{frame_from}
use Rattle.frames.proofs.frame.Frame.diff_head.Goals as goal

pub returns : goal.returns
returns c = c.of.ensures ∙ λ k. frame_from (fields_of 2 (c.header_in.ensures k) (c.header_words-words.ensures k))
