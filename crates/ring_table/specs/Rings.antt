-- The slots of rings: ring i has the c slots from i × c on, and its frames wait in a row from its head on, past the last slot to the first.
use Rattle.std.specs.Prelude.{◌≡◌, ℕ, ◌+◌, ◌-◌, ◌*◌, ◌<◌, cond, List, [], map, length, Ok, Err, Result, ◌≢◌, nat_lt, slice_index}
use Rattle.std.specs.List.{range_with_len}
use Rattle.backplane.specs.declared.fault.LaneFault.{LaneFault}
use Rattle.backplane.specs.Lanes.{LanesOf, is_lane, send_out, send_lanes}
use Rattle.ring_table.specs.declared.ring.Ring.{Ring}
use Rattle.ring_table.specs.Index.{lane_index}
use Rattle.ring_table.specs.Ring.{ring_at}
use Rattle.ring_table.specs.Shapes.{slots_of}

abbrev pub wrapped : ℕ → ℕ → ℕ
wrapped c place = cond (nat_lt place c) place (place - c)

abbrev pub ring_slot : ℕ → ℕ → ℕ → ℕ → ℕ
ring_slot c i head k = i * c + wrapped c (head + k)

unfoldable pub ring_slots : ℕ → ℕ → Ring → List ℕ
ring_slots c i ring = map (ring_slot c i ring.head) (range_with_len 0 ring.count)

-- of n cards: the slots in which the frames of each lane wait, in order
unfoldable pub slots_in : ℕ → ℕ → List Ring → LanesOf ℕ
slots_in n c rings f t l = cond (is_lane n f t l) (ring_slots c (lane_index n f t l) (ring_at rings (lane_index n f t l))) []

-- no frame of any lane waits in slot j
abbrev pub Free : LanesOf ℕ → ℕ → Type 0
Free S j = (f t l k : ℕ) → k < length (S f t l) → slice_index (S f t l) k ≢ j

-- one frame more: in a free slot of the table, or refused as a send is
abbrev pub Entered : ℕ → ℕ → LanesOf ℕ → LanesOf ℕ → ℕ → ℕ → ℕ → Result ℕ LaneFault → Type 0
Entered n c S S' f t l (Ok j) = (send_out n c S f t l ≡ Ok tt) × (S' ≡ send_lanes n c S f t l j) × Free S j × (j < slots_of n c)
Entered n c S S' f t l (Err e) = (send_out n c S f t l ≡ Err e) × (S' ≡ S)

-- what waits, where slot j holds g j
abbrev pub through : {A : Type 0} → (ℕ → A) → LanesOf ℕ → LanesOf A
through g S f t l = map g (S f t l)

-- the answer of a slot j, as g j
abbrev pub held : {A : Type 0} → (ℕ → A) → Result ℕ LaneFault → Result A LaneFault
held g (Ok j) = Ok (g j)
held g (Err e) = Err e
