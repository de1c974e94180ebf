-- What C is told of a slot, and what it finds afterwards.
use Rattle.std.specs.Prelude.{ℕ, if◌then◌else◌, List, Ok, Err, Result}
use Rattle.refusals.specs.declared.Refusal.{Refusal}
use Rattle.refusals.specs.Numbers.{refusal_number}
use Rattle.frames.specs.declared.frame.Frame.{Frame}
use Rattle.frames.specs.Fields.{FrameFields}
use Rattle.frames.specs.Kinds.{kind_number}
use Rattle.frames.specs.Made.{slot_fits, wrote_at}
use Rattle.rack_link.specs.declared.slots.Fields.{Fields}

-- 0, or the number of the refusal
abbrev pub status : {X : Type 0} → Result X Refusal → ℕ
status (Ok x) = 0
status (Err why) = refusal_number why

-- eight numbers as a frame's
abbrev pub numbers_in : Fields → FrameFields
numbers_in f = record { kind = f.kind; round = f.round; leader = f.leader; count = f.count; w1 = f.w1; w2 = f.w2; w3 = f.w3; w4 = f.w4 }

-- whether the frame that was made, if one was, has a place from a start on
abbrev pub placed : Result Frame Refusal → List ℕ → ℕ → ℕ
placed (Ok frame) bytes start = if slot_fits bytes start then 0 else 2
placed (Err why) bytes start = refusal_number why

-- the bytes with its slot, and as they were where there is none
abbrev pub with_slot : Result Frame Refusal → List ℕ → ℕ → List ℕ
with_slot (Ok frame) bytes start = wrote_at frame bytes start
with_slot (Err why) bytes start = bytes

-- the numbers of the frame that was read, and as they were where none was
abbrev pub with_numbers : Result Frame Refusal → Fields → Fields
with_numbers (Ok f) before = record { kind = kind_number f.kind; round = f.round; leader = f.leader; count = f.count; w1 = f.w1; w2 = f.w2; w3 = f.w3; w4 = f.w4 }
with_numbers (Err why) before = before
