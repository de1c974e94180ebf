use Rattle.ring_table.specs.Table.{slots}
use Rattle.rings.proofs.Frames.{left_lanes}
use Rattle.rings.proofs.ring.calls.RingsBackplane.drop_first.Goals as goal

pub returns-clause-lanes : goal.returns-clause-lanes
returns-clause-lanes c =
    let s = c.args.self.now in
    let t = s.table.shape in
    (left_lanes t.cards t.room (slots s.table) s.store.bytes.now c.args.lane.from c.args.lane.to c.args.lane.number (slots c.leave.new.self) c.args.k c.leave.ensures.slots c.leave.result c.leave.ensures.answer).1
