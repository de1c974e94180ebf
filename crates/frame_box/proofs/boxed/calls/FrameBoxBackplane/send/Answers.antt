use Rattle.ring_table.specs.Table.{slots}
use Rattle.frame_box.proofs.Box.{box_send}
use Rattle.frame_box.proofs.boxed.calls.FrameBoxBackplane.send.Goals as goal

pub returns-clause-lanes : goal.returns-clause-lanes
returns-clause-lanes c =
    let s = c.args.self.now in
    let t = s.table.shape in
    (box_send t.cards t.room s.three s.eight (slots s.table) s.frames c.args.lane.from c.args.lane.to c.args.lane.number (slots c.enter.new.self) c.in_ok-slot.slot c.args.frame s.long c.in_ok-slot.ensures.entered).1
