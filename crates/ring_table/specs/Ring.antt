-- A ring of a table.
use Rattle.std.specs.Prelude.{ℕ, List, slice_index_or}
use Rattle.ring_table.specs.declared.ring.Ring.{Ring}

-- a ring in which nothing waits
abbrev pub empty_ring : Ring
empty_ring = record { head = 0; count = 0 }

abbrev pub ring_at : List Ring → ℕ → Ring
ring_at rings i = slice_index_or rings i empty_ring
