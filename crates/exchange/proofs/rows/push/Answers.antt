use Rattle.std.proofs.Common.{refl}
use Rattle.std.proofs.lemmas.Result.{err_from_is_err_and}
use Rattle.exchange.proofs.Pushed.{push_refused, push_unsent, push_done}
use Rattle.exchange.proofs.rows.push.Goals as goal

pub returns-in_err-frame : goal.returns-in_err-frame
returns-in_err-frame g c =
    let a = c.args in
    let b = g.B.Backplane in
    let s = a.backplane.now in
    let p = err_from_is_err_and c.from_residual.result c.from_residual.ensures.1 in
    let no = push_refused (b.count s) (b.room s) a.lane.from a.lane.to a.lane.number a.card.now (b.lanes s) c.in_err-frame.field-0.0 c.in_err-frame.ensures in
    record { part = rw (p.1, p.2) no; count = refl; room = refl }

pub returns-in_err-send : goal.returns-in_err-send
returns-in_err-send g c =
    let a = c.args in
    let b = g.B.Backplane in
    let s = a.backplane.now in
    let p = err_from_is_err_and c.from_residual-in_err-send.result c.from_residual-in_err-send.ensures.1 in
    let out = c.in_err-send.ensures in
    let row = c.in_ok-frame in
    let no = push_unsent (b.count s) (b.room s) a.lane.from a.lane.to a.lane.number a.card.now (b.lanes s) row.frame row.ensures (b.lanes c.send.new.self) out.lanes c.in_err-send.field-0.0 out.answer in
    record { part = rw (p.1, p.2) no; count = out.count; room = out.room }

pub returns : goal.returns
returns g c =
    let a = c.args in
    let b = g.B.Backplane in
    let s = a.backplane.now in
    let out = c.in_ok-send.ensures in
    let row = c.in_ok-frame in
    record {
      part = push_done (b.count s) (b.room s) a.lane.from a.lane.to a.lane.number a.card.now (b.lanes s) row.frame row.ensures (b.lanes c.send.new.self) out.lanes out.answer;
      count = out.count;
      room = out.room;
    }
