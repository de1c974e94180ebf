-- The slots of a table's rings.
use Rattle.std.specs.Prelude.{ℕ}
use Rattle.backplane.specs.Lanes.{LanesOf}
use Rattle.ring_table.specs.declared.table.RingTable.{RingTable}
use Rattle.ring_table.specs.Rings.{slots_in}

abbrev pub slots : RingTable → LanesOf ℕ
slots t = slots_in t.shape.cards t.shape.room t.rings
