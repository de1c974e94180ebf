use Rattle.std.proofs.Common.{◌≡◌, true, length, Err, ap, ◌∙◌, rules}
use Rattle.std.proofs.lemmas.Result.{err_from_is_err_and}
use Rattle.backplane.specs.Lanes.{is_lane}
use Rattle.protocol.specs.declared.answer.Answer.TheVariants.{Took}
use Rattle.cards.specs.Faults.{card_refusal, replied}
use Rattle.cards.specs.LaneViews.{lane_fields}
use Rattle.logs.specs.Places.{logged}
use Rattle.taking.proofs.Refused.{take_refused}
use Rattle.taking.proofs.taking.take.Goals as goal

pub returns-in_err-entry-clause-part : goal.returns-in_err-entry-clause-part
returns-in_err-entry-clause-part g c =
    let s = c.args.backplane.now in
    let log = c.args.log.now in
    let lanes = lane_fields (g.B.Backplane.lanes s) in
    let is : is_lane (g.B.Backplane.count s) c.args.peer c.args.number 0 ≡ true = search rules in
    let p = err_from_is_err_and c.from_residual-in_err-entry.result c.from_residual-in_err-entry.ensures.1 in
    ap (λ r. (replied Took r, (c.args.card.now, logged log, lanes))) (p.1 ∙ ap Err p.2)
    ∙ take_refused (g.B.Backplane.count s) (length log.places.now) c.args.number c.args.peer c.args.card.now (logged log) lanes c.if-card.false is (card_refusal c.in_err-entry.field-0.0) c.in_err-entry.ensures
