-- The numbers of an opened diff, from its head.
use Rattle.frames.specs.Fields.{FrameFields, epoch_of, words_header}
use Rattle.taking.specs.declared.diff.OpenedDiff.{OpenedDiff}

abbrev pub token_of : FrameFields → OpenedDiff
token_of head = record { epoch = epoch_of head; base = words_header head; entries = head.w4 }
