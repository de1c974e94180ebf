-- What the slots of some bytes hold: slot j begins at byte 48 × j.
use Rattle.std.specs.Prelude.{◌≡◌, ℕ, ◌+◌, ◌*◌, ◌≤◌, Bool, true, false, ◌&&◌, List, length, take, drop, is_ok, Ok, Err, Result, ◌==◌}
use Rattle.std.specs.List.{list_all}
use Rattle.refusals.specs.declared.Refusal.{Refusal}
use Rattle.refusals.specs.declared.Refusal.TheVariants.{WrongSize}
use Rattle.frames.specs.declared.frame.Frame.{Frame}
use Rattle.frames.specs.Made.{slot, read_at}
use Rattle.backplane.specs.Blank.{blank}
use Rattle.backplane.specs.declared.fault.LaneFault.{LaneFault}
use Rattle.backplane.specs.Lanes.{Lanes, frame_out}
use Rattle.ring_table.specs.declared.shape.Shape.{Shape}
use Rattle.ring_table.specs.Shapes.{is_shape, slots_of}

-- in a slot in which no frame waits, bytes may be no frame's: they count as the blank
abbrev pub or_blank : Result Frame Refusal → Frame
or_blank (Ok x) = x
or_blank (Err e) = blank

abbrev pub read_slot : List ℕ → ℕ → Result Frame Refusal
read_slot bytes j = read_at bytes (j * 48)

abbrev pub frame_at : List ℕ → ℕ → Frame
frame_at bytes j = or_blank (read_slot bytes j)

-- whether slot j holds the bytes of a frame
abbrev pub is_frame_at : List ℕ → ℕ → Bool
is_frame_at bytes j = is_ok (read_slot bytes j)

abbrev pub every : List Bool → Bool
every = list_all (λ b. b)

-- a buffer of n × n × 4 × c × 48 bytes
abbrev pub ShapeFor : ℕ → ℕ → ℕ → Result Shape Refusal → Type 0
ShapeFor n c len (Ok s) = ((is_shape n c && len == slots_of n c * 48) ≡ true) × (s.cards ≡ n) × (s.room ≡ c)
ShapeFor n c len (Err e) = ((is_shape n c && len == slots_of n c * 48) ≡ false) × (e ≡ WrongSize)

-- the start of a waiting frame's slot: there, within the bytes, stand the frame's own 48
abbrev pub Holds : List ℕ → ℕ → Result Frame LaneFault → Type 0
Holds bytes start (Ok x) = (start + 48 ≤ length bytes) × (take 48 (drop start bytes) ≡ slot x)
Holds bytes start (Err e) = ⊥

abbrev pub SlotAt : ℕ → Lanes → List ℕ → ℕ → ℕ → ℕ → ℕ → Result ℕ LaneFault → Type 0
SlotAt n L bytes f t l k (Ok start) = Holds bytes start (frame_out n L f t l k)
SlotAt n L bytes f t l k (Err e) = frame_out n L f t l k ≡ Err e
