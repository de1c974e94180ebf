use Rattle.ring_table.specs.Table.{slots}
use Rattle.frame_box.proofs.Box.{box_drop}
use Rattle.frame_box.proofs.boxed.calls.FrameBoxBackplane.drop_first.Goals as goal

pub returns-clause-lanes : goal.returns-clause-lanes
returns-clause-lanes c =
    let s = c.args.self.now in
    let t = s.table.shape in
    (box_drop t.cards t.room s.three s.eight (slots s.table) s.frames c.args.lane.from c.args.lane.to c.args.lane.number (slots c.leave.new.self) c.args.k c.leave.result c.leave.ensures.answer c.leave.ensures.slots).1
