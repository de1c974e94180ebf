use Rattle.std.proofs.Common.{Ok, Err, ap, ◌∙◌}
use Rattle.std.proofs.lemmas.Result.{err_from_is_err_and}
use Rattle.ring_table.specs.Table.{slots}
use Rattle.frame_box.proofs.Box.{box_frame, box_read}
use Rattle.frame_box.proofs.boxed.calls.FrameBoxBackplane.frame_at.Goals as goal

pub returns : goal.returns
returns c =
    let s = c.args.self.now in
    let t = s.table.shape in
    let found = c.in_ok-slot.ensures in
    ap Ok (box_read t.cards t.room s.three s.eight (slots s.table) s.frames c.args.lane.from c.args.lane.to c.args.lane.number c.in_ok-slot.slot c.index-self-slot.result s.long found.below)
    ∙ box_frame t.cards t.room s.three s.eight (slots s.table) s.frames c.args.lane.from c.args.lane.to c.args.lane.number (Ok c.in_ok-slot.slot) c.args.position found.value

pub returns-in_err-slot : goal.returns-in_err-slot
returns-in_err-slot c =
    let s = c.args.self.now in
    let t = s.table.shape in
    let p = err_from_is_err_and c.from_residual.result c.from_residual.ensures.1 in
    p.1 ∙ ap Err p.2 ∙ box_frame t.cards t.room s.three s.eight (slots s.table) s.frames c.args.lane.from c.args.lane.to c.args.lane.number (Err c.in_err-slot.field-0.0) c.args.position c.in_err-slot.ensures.value
