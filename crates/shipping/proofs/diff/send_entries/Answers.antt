use Rattle.std.proofs.Common.{◌≡◌, ◌+◌, ◌≤◌, [], ◌∷◌, map, length, sym, ap, ◌∙◌, subst, arith}
use Rattle.frames.specs.Carried.{entry_frame}
use Rattle.backplane.specs.declared.lane.Lane.{Lane}
use Rattle.backplane.specs.declared.port.Port.{Port}
use Rattle.backplane.specs.Ports.{SamePort, lanes_of, room_of, waits}
use Rattle.backplane.proofs.Ports.{same_then}
use Rattle.protocol.specs.Booking.{inside}
use Rattle.cards.specs.LaneViews.{lane_fields}
use Rattle.logs.proofs.Logs.{left_by, left_none, left_in, left_out}
use Rattle.shipping.specs.Lanes.{lanes_with}
use Rattle.shipping.proofs.Sends.{with_none, with_more, put_sent, put_long}
use Rattle.shipping.proofs.diff.send_entries.Goals as goal
use Rattle.shipping.proofs.diff.send_entries.Goals.{then-holds, else-holds}

pub loop-entry-preserved : goal.loop-entry-preserved
loop-entry-preserved g c =
    let p = inside c.args.span.low c.args.span.high in
    let log = c.args.log.now in
    let i = c.loop-entry.entry-index in
    let first = c.args.port.now in
    let all = lanes_with first.lane.from first.lane.to first.lane.number (map (entry_frame 3) (left_by p 0 log)) (lane_fields (lanes_of first)) in
    let rest = left_by p (i + 1) log in
    let now = c.loop-entry.port in
    let at = now.lane in
    let entering = λ (at : Lane). lanes_with at.from at.to at.number in
    let inv = c.loop-entry.invariant in
    let Kept = λ (port : Port g.row.B.Denot g.B.Backplane). SamePort first port × (entering port.lane (map (entry_frame 3) rest) (lane_fields (lanes_of port)) ≡ all) × (length (waits port) + length rest ≤ room_of port) in
    elim c.if-holds.branch [
      | then-holds w ↦
          let next = left_in p log i c.entry-item.result c.loop-entry-test.true c.entry-item.is w.if-holds.ensures in
          let put = w.put.ensures in
          let port = w.put.new.port in
          let frame = w.diff_entry.result in
          subst Kept (sym w.port-is) (
            same_then inv.0 put.same,
            ap (λ at. entering at (map (entry_frame 3) rest) (lane_fields (lanes_of port))) put.same.lane
                ∙ ap (entering at (map (entry_frame 3) rest)) (put_sent frame put.same put.lanes ∙ ap (λ x. entering at (x ∷ []) (lane_fields (lanes_of now))) w.diff_entry.ensures)
                ∙ with_more at.from at.to at.number _ (map (entry_frame 3) rest) (lane_fields (lanes_of now))
                ∙ ap (λ xs. entering at (map (entry_frame 3) xs) (lane_fields (lanes_of now))) (sym next)
                ∙ inv.1,
            omega (arith, put_long frame put.same put.lanes, put.same.room, ap length next, inv.2),
          )
      | else-holds w ↦
          let next = left_out p log i c.entry-item.result c.loop-entry-test.true c.entry-item.is w.if-holds.ensures in
          subst Kept (sym w.port-is) (
            inv.0,
            ap (λ xs. entering at (map (entry_frame 3) xs) (lane_fields (lanes_of now))) (sym next) ∙ inv.1,
            omega (arith, ap length next, inv.2),
          )
    ]

pub returns-clause-lanes : goal.returns-clause-lanes
returns-clause-lanes g c =
    let at = c.loop-entry.port.lane in
    let now = lane_fields (lanes_of c.loop-entry.port) in
    let none = left_none (inside c.args.span.low c.args.span.high) c.args.log.now c.loop-entry.entry-index c.loop-entry-test.false in
    sym (ap (λ xs. lanes_with at.from at.to at.number (map (entry_frame 3) xs) now) none ∙ with_none at.from at.to at.number now)
    ∙ c.loop-entry.invariant.1
