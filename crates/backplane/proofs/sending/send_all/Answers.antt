use Rattle.std.proofs.Common.{◌∙◌}
use Rattle.backplane.proofs.LaneLaws.{send_turn}
use Rattle.backplane.proofs.sending.send_all.Goals as goal

pub loop-frame-preserved : goal.loop-frame-preserved
loop-frame-preserved g c =
    let s = c.args.backplane.now in
    let m = c.loop-frame.backplane in
    let b = g.B.Backplane in
    let inv = c.loop-frame.invariant in
    let turn = send_turn (b.count s) (b.room s) (b.count m) (b.room m) (b.lanes s) (b.lanes m) c.args.lane.from c.args.lane.to c.args.lane.number c.args.frames.now c.loop-frame.frame-index c.frame-item.result inv.0 inv.1 c.loop-frame-test.true c.frame-item.is inv.2 inv.3 inv.4 in
    let sent = c.in_ok-send.ensures in
    (inv.0, inv.1, sent.count ∙ inv.2, sent.room ∙ inv.3, sent.lanes ∙ turn.1)
