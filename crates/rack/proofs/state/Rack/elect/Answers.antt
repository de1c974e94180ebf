use Rattle.std.proofs.Common.{◌≡◌, ℕ, Bool, true, not, ◌&&◌, List, [], ◌∷◌, is_err, Ok, Err, ap, ◌∙◌}
use Rattle.std.proofs.lemmas.Bool.{not-false}
use Rattle.refusals.specs.declared.Refusal.{Refusal}
use Rattle.refusals.specs.declared.Refusal.TheVariants.{Stopped, WrongRole, UsedUp}
use Rattle.protocol.specs.Rack.{is_electing}
use Rattle.protocol.specs.Voting.{standing_epoch, stands, elect_answer, elected}
use Rattle.protocol.specs.declared.answer.Answer.TheVariants.{Chose}
use Rattle.protocol.specs.declared.card.Card.{Card}
use Rattle.cards.specs.Faults.{card_refusal, replied}
use Rattle.cards.specs.Parts.{of_cards, elect_part}
use Rattle.cards.specs.declared.member.Member.{Member}
use Rattle.cards.specs.declared.size.RackSize.{RackSize}
use Rattle.rack.specs.Sound.{sound_card}
use Rattle.rack.specs.View.{view}
use Rattle.rack.proofs.Places.{own_seat, found_there, with_card_alone, alone_answered}
use Rattle.rack.proofs.Views.{found, sound_found}
use Rattle.rack.proofs.Refused.{told_card}
use Rattle.rack.proofs.Sounds.{sound_elected}
use Rattle.rack.proofs.state.Rack.elect.Goals as goal

abbrev checks : RackSize → ℕ → Card → List (Bool × Refusal)
checks n i d = (d.stopped, Stopped) ∷ (not (is_electing d.role), WrongRole) ∷ (stands (of_cards n) i d && is_err (standing_epoch (of_cards n) i d), UsedUp) ∷ []

-- the part that the card is asked is this rack's and this number's
by_member : {m m' : Member} (d : Card) → m ≡ m' → elect_part m.size m.number d ≡ elect_part m'.size m'.number d
by_member d e = ap (λ (m : Member). elect_part m.size m.number d) e

pub invariant_of-self : goal.invariant_of-self
invariant_of-self c =
    let r = c.args.self.now in
    let i = c.args.card in
    let own = found_there r i c.in_ok-seat.field-0 (found r i c.in_ok-seat.field-0 c.in_ok-seat.ensures.value) in
    let d = (own_seat r i).card in
    let before : sound_card d ≡ true = sound_found r i (own_seat r i) own in
    let after = with_card_alone (checks r.size i) (elect_answer (of_cards r.size) i) (elected (of_cards r.size) i) r i own (λ p. sound_elected (of_cards r.size) i d before (not-false (is_electing d.role) p.1.0) p.1.1.0) (replied Chose c.elect.result) c.elect.new.card (c.elect.ensures ∙ by_member d c.member-member.ensures) in
    record { few = after.few; seven = after.seven; fit = after.fit; sound = after.sound }

pub returns-in_err-elect-clause-step : goal.returns-in_err-elect-clause-step
returns-in_err-elect-clause-step c =
    let r = c.args.self.now in
    let i = c.args.card in
    let own = found_there r i c.in_ok-seat.field-0 (found r i c.in_ok-seat.field-0 c.in_ok-seat.ensures.value) in
    let d = (own_seat r i).card in
    let before : sound_card d ≡ true = sound_found r i (own_seat r i) own in
    let f = c.in_err-elect.field-0.0 in
    let e = c.in_err-elect.ensures ∙ by_member d c.member-member.ensures in
    let after = with_card_alone (checks r.size i) (elect_answer (of_cards r.size) i) (elected (of_cards r.size) i) r i own (λ p. sound_elected (of_cards r.size) i d before (not-false (is_electing d.role) p.1.0) p.1.1.0) (Err (card_refusal f)) c.elect.new.card e in
    let reply = told_card Chose c.from_residual-in_err-elect.result f c.from_residual-in_err-elect.ensures.1 in
    λ entries lanes. (λ k. (reply k, view after entries (λ _. tt {0}) lanes)) ∙ alone_answered (checks r.size i) (elect_answer (of_cards r.size) i) (elected (of_cards r.size) i) r i own (λ p. sound_elected (of_cards r.size) i d before (not-false (is_electing d.role) p.1.0) p.1.1.0) (Err (card_refusal f)) c.elect.new.card e entries (λ _. tt {0}) lanes

pub returns-clause-step : goal.returns-clause-step
returns-clause-step c =
    let r = c.args.self.now in
    let i = c.args.card in
    let own = found_there r i c.in_ok-seat.field-0 (found r i c.in_ok-seat.field-0 c.in_ok-seat.ensures.value) in
    let d = (own_seat r i).card in
    let before : sound_card d ≡ true = sound_found r i (own_seat r i) own in
    λ entries lanes. alone_answered (checks r.size i) (elect_answer (of_cards r.size) i) (elected (of_cards r.size) i) r i own (λ p. sound_elected (of_cards r.size) i d before (not-false (is_electing d.role) p.1.0) p.1.1.0) (Ok (Chose c.in_ok-elect.field-0)) c.elect.new.card (c.in_ok-elect.ensures ∙ by_member d c.member-member.ensures) entries (λ _. tt {0}) lanes
