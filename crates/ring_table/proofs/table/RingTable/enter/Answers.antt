use Rattle.std.proofs.Common.{arith}
use Rattle.ring_table.proofs.Calls.{enter_there}
use Rattle.ring_table.proofs.table.RingTable.enter.Goals as goal

pub returns-clause-entered : goal.returns-clause-entered
returns-clause-entered c =
    let s = c.args.self.now in
    enter_there s.shape.cards s.shape.room s.rings c.args.lane.from c.args.lane.to c.args.lane.number c.in_ok-place.place c.in_ok-place.ensures s.headed s.held (omega (arith, c.in_ok-place.ensures, s.long)) c.if-ring-self.false c.slot-slot.result c.slot-slot.ensures
