use Rattle.std.proofs.Common.{Err, sym, ap, ◌∙◌, subst}
use Rattle.std.proofs.lemmas.Result.{err_from_is_err_and}
use Rattle.ring_table.specs.Table.{slots}
use Rattle.rings.specs.Slots.{SlotAt}
use Rattle.rings.specs.Rings.{rings_bytes, rings_lanes}
use Rattle.rings.proofs.Frames.{waiting_bytes, none_waiting}
use Rattle.rings.proofs.ring.Rings.slot_start.Goals as goal

pub returns-clause-bytes : goal.returns-clause-bytes
returns-clause-bytes c =
    let s = c.args.self.now in
    let t = s.table.shape in
    let found = c.in_ok-slot.ensures in
    waiting_bytes t.cards t.room (slots s.table) s.store.bytes.now c.args.lane.from c.args.lane.to c.args.lane.number c.args.position c.in_ok-slot.slot s.frames s.long found.below found.value

pub returns-in_err-slot-clause-bytes : goal.returns-in_err-slot-clause-bytes
returns-in_err-slot-clause-bytes c =
    let s = c.args.self.now in
    let t = s.table.shape in
    let p = err_from_is_err_and c.from_residual.result c.from_residual.ensures.1 in
    let none = none_waiting t.cards t.room (slots s.table) s.store.bytes.now c.args.lane.from c.args.lane.to c.args.lane.number c.args.position c.in_err-slot.field-0.0 c.in_err-slot.ensures.value in
    subst (SlotAt t.cards (rings_lanes s) (rings_bytes s) c.args.lane.from c.args.lane.to c.args.lane.number c.args.position) (sym (p.1 ∙ ap Err p.2)) (sym none)
