-- The lanes of the rings: the frames in the slots of their table.
use Rattle.std.specs.Prelude.{◌≡◌, ℕ, ◌≤◌, false, List, [], length}
use Rattle.backplane.specs.Lanes.{Lanes, is_lane}
use Rattle.ring_table.specs.Rings.{through}
use Rattle.ring_table.specs.Table.{slots}
use Rattle.ring_table.proofs.Bounds.{through_within, through_nowhere}
use Rattle.rings.specs.Slots.{frame_at}
use Rattle.rings.specs.declared.ring.Rings.{Rings}

abbrev pub rings_bytes : Rings → List ℕ
rings_bytes s = s.store.bytes.now

abbrev pub rings_lanes : Rings → Lanes
rings_lanes s = through (frame_at (rings_bytes s)) (slots s.table)

pub rings_within : (s : Rings) (f t l : ℕ) → length (rings_lanes s f t l) ≤ s.table.shape.room
rings_within s f t l = through_within (frame_at (rings_bytes s)) s.table f t l

pub rings_nowhere : (s : Rings) (f t l : ℕ) → is_lane s.table.shape.cards f t l ≡ false → rings_lanes s f t l ≡ []
rings_nowhere s f t l isnt = through_nowhere (frame_at (rings_bytes s)) s.table f t l isnt
