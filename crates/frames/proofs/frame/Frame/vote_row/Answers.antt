use Rattle.std.proofs.Common.{◌∙◌}
use Rattle.frames.specs.Fields.{fields_of}
use Rattle.frames.specs.Made.{frame_from}
use Rattle.frames.proofs.frame.Frame.vote_row.Goals as goal

pub returns : goal.returns
returns c = c.of.ensures ∙ λ k. frame_from (fields_of 5 (c.header_in.ensures k) (c.header_words.ensures k))
