-- How many slots a lane has, and that there are none where there is no lane.
use Rattle.std.proofs.Common.{◌≡◌, ℕ, ◌*◌, ◌≤◌, Bool, true, false, [], map, length, refl, ap, arith}
use Rattle.std.proofs.lemmas.Nat.{mul-le}
use Rattle.std.proofs.lemmas.List.{length-map}
use Rattle.backplane.specs.Lanes.{is_lane}
use Rattle.ring_table.specs.declared.table.RingTable.{RingTable}
use Rattle.ring_table.specs.Index.{lane_index}
use Rattle.ring_table.specs.Ring.{ring_at}
use Rattle.ring_table.specs.Rings.{through}
use Rattle.ring_table.specs.Shapes.{slots_of}
use Rattle.ring_table.specs.Table.{slots}
use Rattle.ring_table.proofs.RingLaws.{length_ring, slots_there, slots_nowhere}

-- of at most seven cards with room for 2048 frames
pub slots_most : (n c : ℕ) → n ≤ 7 → c ≤ 2048 → slots_of n c ≤ 401408
slots_most n c few most = mul-le (n * n * 4) c 196 2048 (omega (arith, mul-le n n 7 7 few few)) most

pub slots_within : (s : RingTable) (f t l : ℕ) → length (slots s f t l) ≤ s.shape.room
slots_within s f t l = each (is_lane s.shape.cards f t l) refl
  where
    each : (b : Bool) → is_lane s.shape.cards f t l ≡ b → length (slots s f t l) ≤ s.shape.room
    each true is =
        let i = lane_index s.shape.cards f t l in
        omega (arith, ap length (slots_there s.shape.cards s.shape.room s.rings f t l i is refl), length_ring s.shape.room i (ring_at s.rings i), s.held i)
    each false isnt = omega (arith, ap length (slots_nowhere s.shape.cards s.shape.room s.rings f t l isnt))

module _ {A : Type 0} (g : ℕ → A) (s : RingTable) (f t l : ℕ) where
  pub through_within : length (through g (slots s) f t l) ≤ s.shape.room
  through_within = omega (arith, length-map (slots s f t l) g, slots_within s f t l)

  pub through_nowhere : is_lane s.shape.cards f t l ≡ false → through g (slots s) f t l ≡ []
  through_nowhere isnt = ap (map g) (slots_nowhere s.shape.cards s.shape.room s.rings f t l isnt)
