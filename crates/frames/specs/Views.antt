-- The plain numbers of an entry and of a frame.
use Rattle.frames.specs.declared.entry.Entry.{Entry}
use Rattle.frames.specs.declared.frame.Frame.{Frame}
use Rattle.frames.specs.Kinds.{kind_number}
use Rattle.frames.specs.Fields.{EntryFields, FrameFields}

abbrev pub entry_fields : Entry → EntryFields
entry_fields e = record { header = e.header; queue = e.queue; payload = e.payload }

abbrev pub frame_fields : Frame → FrameFields
frame_fields f = record { kind = kind_number f.kind; round = f.round; leader = f.leader; count = f.count; w1 = f.w1; w2 = f.w2; w3 = f.w3; w4 = f.w4 }
