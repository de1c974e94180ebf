use Rattle.std.proofs.Common.{◌≡◌, ℕ, ◌+◌, ◌<◌, Some, None, Err, Result, refl, ap, ◌∙◌, rules}
use Rattle.std.proofs.lemmas.Result.{err_from_is_err_and}
use Rattle.marks.specs.Kinds.{header_in}
use Rattle.protocol.specs.Rows.{mark_shipped}
use Rattle.protocol.specs.Booking.{diff_entries, diff_frames, entry_at, message_frames}
use Rattle.protocol.specs.declared.answer.Answer.TheVariants.{Count}
use Rattle.logs.specs.Log.{entries_of}
use Rattle.cards.specs.Faults.{card_refusal, replied}
use Rattle.cards.specs.declared.fault.CardFault.{CardFault}
use Rattle.cards.specs.declared.fault.CardFault.TheVariants as fault
use Rattle.cards.specs.LaneViews.{lane_fields}
use Rattle.refusals.specs.declared.Refusal.TheVariants.{NothingDue}
use Rattle.shipping.proofs.Ships.{leading, ship_refused, ship_done, nothing_past}
use Rattle.shipping.proofs.ship.Goals as goal

pub returns-in_err-frames-in-None-clause-part : goal.returns-in_err-frames-in-None-clause-part
returns-in_err-frames-in-None-clause-part g c =
    let b = g.B.Backplane in
    let s = c.args.backplane.now in
    let card = c.args.card.now in
    let log = entries_of c.args.log.now in
    let row = c.row-row.result in
    let leads = leading card.role c.if-ne.ensures in
    let p = err_from_is_err_and c.from_residual.result c.from_residual.ensures.1 in
    ap (λ r. (replied Count r, (card, lane_fields (b.lanes c.send_diff.new.backplane)))) (p.1 ∙ ap Err p.2)
    ∙ ship_refused (b.count s) (b.room s) c.args.number c.args.peer card (lane_fields (b.lanes s)) log c.if-card.false leads row c.row-row.ensures None c.in-None.is (diff_frames card.current row.commit (diff_entries card.current row.commit log)) refl (card_refusal c.in_err-frames-in-None.field-0.0) (lane_fields (b.lanes c.send_diff.new.backplane)) c.in_err-frames-in-None.ensures.part

pub returns-in_err-count-in-Some-clause-part : goal.returns-in_err-count-in-Some-clause-part
returns-in_err-count-in-Some-clause-part g c =
    let b = g.B.Backplane in
    let s = c.args.backplane.now in
    let card = c.args.card.now in
    let log = entries_of c.args.log.now in
    let row = c.row-row.result in
    let leads = leading card.role c.if-ne.ensures in
    let next = c.in-Some.shipped + 1 in
    let past : 4294967294 < next = search rules in
    let refused : ◌≡◌ {A = Result ℕ CardFault} c.from_residual-in_err-count-in-Some.result (Err fault.NothingDue) = search rules in
    ap (λ r. (replied Count r, (card, lane_fields (b.lanes s)))) refused
    ∙ ship_refused (b.count s) (b.room s) c.args.number c.args.peer card (lane_fields (b.lanes s)) log c.if-card.false leads row c.row-row.ensures (Some c.in-Some.shipped) c.in-Some.is (message_frames (entry_at (card.current.0, card.current.1, next) log)) refl NothingDue (lane_fields (b.lanes s)) (nothing_past (card.current.0, card.current.1, next) past (b.count s) (b.room s) c.args.number c.args.peer (b.lanes s) c.args.log.now)

pub returns-in_ok-frames-in-None-clause-part : goal.returns-in_ok-frames-in-None-clause-part
returns-in_ok-frames-in-None-clause-part g c =
    let b = g.B.Backplane in
    let s = c.args.backplane.now in
    let card = c.args.card.now in
    let log = entries_of c.args.log.now in
    let row = c.row-row.result in
    let leads = leading card.role c.if-ne.ensures in
    ship_done (b.count s) (b.room s) c.args.number c.args.peer card (lane_fields (b.lanes s)) log c.if-card.false leads row c.row-row.ensures None c.in-None.is (diff_frames card.current row.commit (diff_entries card.current row.commit log)) refl (Count c.in_ok-frames-in-None.frames) (lane_fields (b.lanes c.send_diff.new.backplane)) c.mark_shipped.new.self c.mark_shipped.ensures c.in_ok-frames-in-None.ensures.part

pub returns-in_ok-frames-in-Some-clause-part : goal.returns-in_ok-frames-in-Some-clause-part
returns-in_ok-frames-in-Some-clause-part g c =
    let b = g.B.Backplane in
    let s = c.args.backplane.now in
    let card = c.args.card.now in
    let log = entries_of c.args.log.now in
    let row = c.row-row.result in
    let leads = leading card.role c.if-ne.ensures in
    let next : c.in_ok-count-in-Some.count ≡ c.in-Some.shipped + 1 = search rules in
    ship_done (b.count s) (b.room s) c.args.number c.args.peer card (lane_fields (b.lanes s)) log c.if-card.false leads row c.row-row.ensures (Some c.in-Some.shipped) c.in-Some.is (message_frames (entry_at c.header_in.result log)) (ap (λ h. message_frames (entry_at h log)) (c.header_in.ensures ∙ ap (header_in card.current) next)) (Count c.in_ok-frames-in-Some.frames) (lane_fields (b.lanes c.send_message.new.backplane)) c.mark_shipped-in-Some.new.self (c.mark_shipped-in-Some.ensures ∙ ap (λ m. mark_shipped card.peers c.args.peer (Some m)) next) c.in_ok-frames-in-Some.ensures.part
