-- The frame that numbers make, if they make one; and the frame that a slot's bytes are, if they are one.
use Rattle.std.specs.Prelude.{◌≡◌, ℕ, ◌+◌, ◌/◌, ◌%◌, Bool, true, false, cond, ◌&&◌, List, [], ◌∷◌, ◌++◌, length, take, drop, Ok, Err, Result, ◌==◌, ◌≢◌, nat_le, slice_index, refl}
use Rattle.std.specs.Simd.Lanes.{number_l}
use Rattle.refusals.specs.declared.Refusal.{Refusal}
use Rattle.refusals.specs.declared.Refusal.TheVariants.{WrongSize, OutOfRange, Malformed}
use Rattle.frames.specs.declared.entry.Entry.{Entry}
use Rattle.frames.specs.declared.frame.Frame.{Frame}
use Rattle.frames.specs.declared.kind.Kind.{Kind}
use Rattle.frames.specs.declared.kind.Kind.TheVariants.{Message, DiffHead, DiffEntry, AcceptRow, VoteRow, CommitRow}
use Rattle.frames.specs.Kinds.{kind_number}
use Rattle.frames.specs.Fields.{EntryFields, FrameFields, is_entry, is_frame}
use Rattle.frames.specs.Slot.{field_widths, slot_of}
use Rattle.frames.specs.Views.{frame_fields}

-- the kind of a number; a number past 6 is that of no kind, and is refused with the frame
abbrev pub kind_at : ℕ → Kind
kind_at n = cond (n == 1) Message (cond (n == 2) DiffHead (cond (n == 3) DiffEntry (cond (n == 4) AcceptRow (cond (n == 5) VoteRow CommitRow))))

abbrev pub with_kind : FrameFields → FrameFields
with_kind f = record { kind = kind_number (kind_at f.kind); round = f.round; leader = f.leader; count = f.count; w1 = f.w1; w2 = f.w2; w3 = f.w3; w4 = f.w4 }

abbrev pub frame_if : (f : FrameFields) (well : Bool) → is_frame (with_kind f) ≡ well → Result Frame Refusal
frame_if f true e = Ok (record { kind = kind_at f.kind; round = f.round; leader = f.leader; count = f.count; w1 = f.w1; w2 = f.w2; w3 = f.w3; w4 = f.w4; well = e })
frame_if f false e = Err Malformed

-- the frame of these numbers, exactly where they are a frame's
abbrev pub frame_from : FrameFields → Result Frame Refusal
frame_from f = cond (is_frame f) (frame_if f (is_frame (with_kind f)) refl) (Err Malformed)

abbrev pub entry_if : (e : EntryFields) (well : Bool) → is_entry e ≡ well → Result Entry Refusal
entry_if e true p = Ok (record { header = e.header; queue = e.queue; payload = e.payload; well = p })
entry_if e false p = Err Malformed

-- the entry of these numbers, exactly where they are an entry's
abbrev pub entry_from : EntryFields → Result Entry Refusal
entry_from e = cond (nat_le e.queue 15) (entry_if e (is_entry e) refl) (Err OutOfRange)

-- the fields that bytes tell, after a map whose bit 0 says whether the next one stands
abbrev pub field : ℕ → ℕ → List ℕ → ℕ
field w m bs = cond (m % 2 == 0) 0 (number_l 256 (take w bs))

abbrev pub after : ℕ → ℕ → List ℕ → List ℕ
after w m bs = cond (m % 2 == 0) bs (drop w bs)

abbrev pub fields : List ℕ → ℕ → List ℕ → List ℕ
fields [] m bs = []
fields (w ∷ ws) m bs = field w m bs ∷ fields ws (m / 2) (after w m bs)

abbrev pub from_list : List ℕ → FrameFields
from_list vs = record { kind = slice_index vs 0; round = slice_index vs 1; leader = slice_index vs 2; count = slice_index vs 3; w1 = slice_index vs 4; w2 = slice_index vs 5; w3 = slice_index vs 6; w4 = slice_index vs 7 }

abbrev pub told : List ℕ → FrameFields
told bs = from_list (fields field_widths (slice_index bs 0) (drop 1 bs))

abbrev pub same_bytes : List ℕ → List ℕ → Bool
same_bytes [] [] = true
same_bytes [] (c ∷ cs) = false
same_bytes (b ∷ bs) [] = false
same_bytes (b ∷ bs) (c ∷ cs) = b == c && same_bytes bs cs

-- bytes are read as the frame whose slot they are
abbrev pub read_back : List ℕ → Result Frame Refusal
read_back bs = cond (same_bytes (slot_of (told bs)) bs) (frame_from (told bs)) (Err Malformed)

-- whether a slot lies within some bytes
abbrev pub slot_fits : List ℕ → ℕ → Bool
slot_fits bytes start = nat_le (start + 48) (length bytes)

-- the same at any start in some bytes
abbrev pub read_at : List ℕ → ℕ → Result Frame Refusal
read_at bytes start = cond (slot_fits bytes start) (read_back (take 48 (drop start bytes))) (Err WrongSize)

abbrev pub slot : Frame → List ℕ
slot f = slot_of (frame_fields f)

-- a slot written at a start: 48 bytes, and all others stay
abbrev pub wrote_at : Frame → List ℕ → ℕ → List ℕ
wrote_at f bytes start = cond (slot_fits bytes start) (take start bytes ++ (slot f ++ drop (start + 48) bytes)) bytes

-- every frame has one slot, and exactly those slots are read back as frames
pub record SlotsAndFrames : Type 0 where
  pub long : (f : Frame) → length (slot f) ≡ 48
  pub written_reads : (f : Frame) → read_back (slot f) ≡ Ok f
  pub read_written : (bs : List ℕ) (f : Frame) → read_back bs ≡ Ok f → slot f ≡ bs
  pub others_refused : (bs : List ℕ) → ((f : Frame) → slot f ≢ bs) → read_back bs ≡ Err Malformed
