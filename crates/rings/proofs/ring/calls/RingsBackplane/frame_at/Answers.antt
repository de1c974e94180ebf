use Rattle.std.proofs.Common.{Err, sym, ap, ◌∙◌}
use Rattle.std.proofs.lemmas.Result.{err_from_is_err_and}
use Rattle.ring_table.specs.Table.{slots}
use Rattle.rings.proofs.Frames.{read_waiting, none_waiting, waiting_reads}
use Rattle.rings.proofs.ring.calls.RingsBackplane.frame_at.Goals as goal

pub returns-in_err-slot : goal.returns-in_err-slot
returns-in_err-slot c =
    let s = c.args.self.now in
    let t = s.table.shape in
    let p = err_from_is_err_and c.from_residual.result c.from_residual.ensures.1 in
    p.1 ∙ ap Err p.2 ∙ none_waiting t.cards t.room (slots s.table) s.store.bytes.now c.args.lane.from c.args.lane.to c.args.lane.number c.args.position c.in_err-slot.field-0.0 c.in_err-slot.ensures.value

pub unwrap-requires : goal.unwrap-requires
unwrap-requires c =
    let s = c.args.self.now in
    let t = s.table.shape in
    waiting_reads t.cards t.room (slots s.table) s.store.bytes.now c.args.lane.from c.args.lane.to c.args.lane.number c.args.position c.in_ok-slot.slot c.read.result s.frames c.in_ok-slot.ensures.value c.read.ensures

pub returns : goal.returns
returns c =
    let s = c.args.self.now in
    let t = s.table.shape in
    read_waiting t.cards t.room (slots s.table) s.store.bytes.now c.args.lane.from c.args.lane.to c.args.lane.number c.args.position c.in_ok-slot.slot c.unwrap.result c.in_ok-slot.ensures.value (sym c.unwrap.ensures ∙ c.read.ensures)
