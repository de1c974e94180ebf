use Rattle.std.proofs.Common.{refl, arith}
use Rattle.ring_table.proofs.Calls.{too_few, leave_there}
use Rattle.ring_table.proofs.table.RingTable.leave.Goals as goal

pub returns : goal.returns
returns c =
    let s = c.args.self.now in
    let i = c.in_ok-place.place in
    let done = leave_there s.shape.cards s.shape.room s.rings c.args.lane.from c.args.lane.to c.args.lane.number i c.in_ok-place.ensures c.args.k (s.headed i) (s.held i) (omega (arith, c.in_ok-place.ensures, s.long)) c.if-k-ring.false c.wrap.result c.wrap.ensures in
    record { answer = done.0; slots = done.1; cards = refl; room = refl }

pub returns-then-k-ring : goal.returns-then-k-ring
returns-then-k-ring c =
    let s = c.args.self.now in
    let no = too_few s.shape.cards s.shape.room s.rings c.args.lane.from c.args.lane.to c.args.lane.number c.in_ok-place.place c.in_ok-place.ensures c.args.k c.if-k-ring.true in
    record { answer = no.0; slots = no.1; cards = refl; room = refl }
