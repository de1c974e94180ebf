use Rattle.std.proofs.Common.{◌≡◌, true, Ok, Err, sym, ◌∙◌}
use Rattle.std.proofs.lemmas.Bool.{eq-eqb}
use Rattle.protocol.specs.Rack.{no_peer, is_row_kind}
use Rattle.protocol.specs.declared.answer.Answer.TheVariants.{Done}
use Rattle.cards.specs.Faults.{card_refusal}
use Rattle.cards.specs.Sizes.{card_count}
use Rattle.rack.specs.View.{view, sizes}
use Rattle.rack.proofs.Refused.{told_card}
use Rattle.rack.proofs.Calls.{lent_fits}
use Rattle.rack.proofs.Peers.{paired}
use Rattle.rack.proofs.Places.{own_seat, paired_there}
use Rattle.rack.proofs.Exchanges.{push_done}
use Rattle.rack.proofs.state.Rack.push.Goals as goal

pub returns-in_err-push-clause-step : goal.returns-in_err-push-clause-step
returns-in_err-push-clause-step g c =
    let b = g.B.Backplane in
    let r = c.args.self.now in
    let i = c.args.card in
    let j = c.args.peer in
    let kind = c.args.kind in
    let at = c.args.backplane.now in
    let first = c.in_ok-seat_to.field-0 in
    let pair = paired_there r i j first (paired r i j first c.in_ok-seat_to.ensures.value) in
    let wide : b.count at ≡ card_count r.size = sym c.cards.ensures ∙ c.if-cards.false ∙ c.cards-2.ensures in
    let is : is_row_kind kind ≡ true = sym c.is_row_kind.ensures ∙ c.if-not-is_row_kind.false in
    let f = c.in_err-push.field-0.0 in
    let reply = told_card (λ _. Done) c.from_residual-in_err-push.result f c.from_residual-in_err-push.ensures.1 in
    λ entries.
    (λ k. (reply k, view r entries (λ _. tt {0}) (b.lanes c.push.new.backplane)))
    ∙ push_done r i j kind (b.room at) entries (λ _. tt {0}) (b.lanes at) (own_seat r i) pair is (b.count at) wide (Err (card_refusal f)) (b.lanes c.push.new.backplane) c.in_err-push.ensures.part
    ∙ sym (lent_fits (no_peer (sizes r (b.room at)) i j) _ _ _ (eq-eqb (b.count at) (card_count r.size) wide))

pub returns-clause-step : goal.returns-clause-step
returns-clause-step g c =
    let b = g.B.Backplane in
    let r = c.args.self.now in
    let i = c.args.card in
    let j = c.args.peer in
    let kind = c.args.kind in
    let at = c.args.backplane.now in
    let first = c.in_ok-seat_to.field-0 in
    let pair = paired_there r i j first (paired r i j first c.in_ok-seat_to.ensures.value) in
    let wide : b.count at ≡ card_count r.size = sym c.cards.ensures ∙ c.if-cards.false ∙ c.cards-2.ensures in
    let is : is_row_kind kind ≡ true = sym c.is_row_kind.ensures ∙ c.if-not-is_row_kind.false in
    λ entries.
    push_done r i j kind (b.room at) entries (λ _. tt {0}) (b.lanes at) (own_seat r i) pair is (b.count at) wide (Ok Done) (b.lanes c.push.new.backplane) c.in_ok-push.ensures.part
    ∙ sym (lent_fits (no_peer (sizes r (b.room at)) i j) _ _ _ (eq-eqb (b.count at) (card_count r.size) wide))
