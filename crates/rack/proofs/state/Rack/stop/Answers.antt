use Rattle.std.proofs.Common.{[], ◌∷◌, Ok, Err, ◌∙◌}
use Rattle.refusals.specs.declared.Refusal.TheVariants.{Stopped}
use Rattle.protocol.specs.Exchange.{stopped_card}
use Rattle.protocol.specs.declared.answer.Answer.TheVariants.{Done}
use Rattle.cards.specs.Faults.{card_refusal, replied}
use Rattle.rack.specs.View.{view}
use Rattle.rack.proofs.Places.{own_seat, found_there, with_card_alone, alone_answered}
use Rattle.rack.proofs.Refused.{told_card}
use Rattle.rack.proofs.Views.{found, sound_found}
use Rattle.rack.proofs.state.Rack.stop.Goals as goal

pub invariant_of-self : goal.invariant_of-self
invariant_of-self c =
    let r = c.args.self.now in
    let i = c.args.card in
    let own = found_there r i c.in_ok-seat.field-0 (found r i c.in_ok-seat.field-0 c.in_ok-seat.ensures.value) in
    let before = sound_found r i (own_seat r i) own in
    let after = with_card_alone (λ d. (d.stopped, Stopped) ∷ []) (λ _. Done) stopped_card r i own (λ _. before) (replied (λ _. Done) c.stop.result) c.stop.new.card c.stop.ensures in
    record { few = after.few; seven = after.seven; fit = after.fit; sound = after.sound }

pub returns-in_err-stop-clause-step : goal.returns-in_err-stop-clause-step
returns-in_err-stop-clause-step c =
    let r = c.args.self.now in
    let i = c.args.card in
    let own = found_there r i c.in_ok-seat.field-0 (found r i c.in_ok-seat.field-0 c.in_ok-seat.ensures.value) in
    let before = sound_found r i (own_seat r i) own in
    let f = c.in_err-stop.field-0.0 in
    let after = with_card_alone (λ d. (d.stopped, Stopped) ∷ []) (λ _. Done) stopped_card r i own (λ _. before) (Err (card_refusal f)) c.stop.new.card c.in_err-stop.ensures in
    let reply = told_card (λ _. Done) c.from_residual-in_err-stop.result f c.from_residual-in_err-stop.ensures.1 in
    λ entries lanes. (λ k. (reply k, view after entries (λ _. tt {0}) lanes)) ∙ alone_answered (λ d. (d.stopped, Stopped) ∷ []) (λ _. Done) stopped_card r i own (λ _. before) (Err (card_refusal f)) c.stop.new.card c.in_err-stop.ensures entries (λ _. tt {0}) lanes

pub returns-clause-step : goal.returns-clause-step
returns-clause-step c =
    let r = c.args.self.now in
    let i = c.args.card in
    let own = found_there r i c.in_ok-seat.field-0 (found r i c.in_ok-seat.field-0 c.in_ok-seat.ensures.value) in
    let before = sound_found r i (own_seat r i) own in
    λ entries lanes. alone_answered (λ d. (d.stopped, Stopped) ∷ []) (λ _. Done) stopped_card r i own (λ _. before) (Ok Done) c.stop.new.card c.in_ok-stop.ensures entries (λ _. tt {0}) lanes
