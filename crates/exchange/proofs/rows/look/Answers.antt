use Rattle.std.proofs.Common.{sym, refl, ◌∙◌}
use Rattle.std.proofs.lemmas.Result.{err_from_is_err_and}
use Rattle.exchange.proofs.Looked.{look_refused, look_other, look_drops, look_done}
use Rattle.exchange.proofs.rows.look.Goals as goal

pub returns-in_err-frame : goal.returns-in_err-frame
returns-in_err-frame g c =
    let a = c.args in
    let b = g.B.Backplane in
    let s = a.backplane.now in
    let p = err_from_is_err_and c.from_residual.result c.from_residual.ensures.1 in
    let no = look_refused (b.count s) a.lane.to a.lane.from a.lane.number a.card.now (b.lanes s) c.if-card.false c.in_err-frame.field-0.0 c.in_err-frame.ensures in
    record { part = rw (p.1, p.2) no; count = refl; room = refl }

pub returns-then-number-lane : goal.returns-then-number-lane
returns-then-number-lane g c =
    let a = c.args in
    let b = g.B.Backplane in
    let s = a.backplane.now in
    let read = c.in_ok-frame in
    record {
      part = look_other (b.count s) a.lane.to a.lane.from a.lane.number a.card.now (b.lanes s) c.if-card.false read.frame read.ensures (λ same. c.if-number-lane.true (c.number.ensures ∙ same));
      count = refl;
      room = refl;
    }

pub returns-in_err-drop_first : goal.returns-in_err-drop_first
returns-in_err-drop_first g c =
    let a = c.args in
    let b = g.B.Backplane in
    let s = a.backplane.now in
    let read = c.in_ok-frame in
    absurd (look_drops (b.count s) a.lane.to a.lane.from a.lane.number a.card.now (b.lanes s) c.if-card.false read.frame read.ensures c.in_err-drop_first.field-0.0 c.in_err-drop_first.ensures.answer)

pub returns : goal.returns
returns g c =
    let a = c.args in
    let b = g.B.Backplane in
    let s = a.backplane.now in
    let read = c.in_ok-frame in
    let out = c.in_ok-drop_first.ensures in
    record {
      part = look_done (b.count s) a.lane.to a.lane.from a.lane.number a.card.now (b.lanes s) c.if-card.false read.frame read.ensures (b.lanes c.drop_first.new.self) c.store_row.new.card (sym c.number.ensures ∙ c.if-number-lane.false) out.lanes c.store_row.ensures;
      count = out.count;
      room = out.room;
    }
