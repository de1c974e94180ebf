use Rattle.std.proofs.Common.{◌≡◌, ℕ, Bool, true, not, List, [], ◌∷◌, Ok, Err, ap, ◌∙◌}
use Rattle.std.proofs.lemmas.Bool.{not-false}
use Rattle.refusals.specs.declared.Refusal.{Refusal}
use Rattle.refusals.specs.declared.Refusal.TheVariants.{Stopped, WrongRole, NotElected}
use Rattle.protocol.specs.Rack.{is_electing}
use Rattle.protocol.specs.Voting.{is_elected, won_by}
use Rattle.protocol.specs.declared.answer.Answer.TheVariants.{ForEpoch}
use Rattle.protocol.specs.declared.card.Card.{Card}
use Rattle.cards.specs.Faults.{card_refusal, replied}
use Rattle.cards.specs.Parts.{of_cards, win_part}
use Rattle.cards.specs.declared.member.Member.{Member}
use Rattle.cards.specs.Sizes.{card_count}
use Rattle.cards.specs.declared.size.RackSize.{RackSize}
use Rattle.rack.specs.Sound.{sound_card}
use Rattle.rack.specs.View.{view}
use Rattle.rack.proofs.Places.{own_seat, found_there, with_card_alone, alone_answered}
use Rattle.rack.proofs.Views.{found, sound_found}
use Rattle.rack.proofs.Refused.{told_card}
use Rattle.rack.proofs.Sounds.{sound_won}
use Rattle.rack.proofs.state.Rack.win.Goals as goal

abbrev checks : RackSize → ℕ → Card → List (Bool × Refusal)
checks n i d = (d.stopped, Stopped) ∷ (not (is_electing d.role), WrongRole) ∷ (not (is_elected (of_cards n) i d), NotElected) ∷ []

-- the part that the card is asked is this rack's and this number's
by_member : {m m' : Member} (d : Card) → m ≡ m' → win_part m.size m.number d ≡ win_part m'.size m'.number d
by_member d e = ap (λ (m : Member). win_part m.size m.number d) e

pub invariant_of-self : goal.invariant_of-self
invariant_of-self c =
    let r = c.args.self.now in
    let i = c.args.card in
    let own = found_there r i c.in_ok-seat.field-0 (found r i c.in_ok-seat.field-0 c.in_ok-seat.ensures.value) in
    let d = (own_seat r i).card in
    let before : sound_card d ≡ true = sound_found r i (own_seat r i) own in
    let after = with_card_alone (checks r.size i) (λ e. ForEpoch e.newest) won_by r i own (λ p. sound_won (of_cards r.size) (card_count r.size) i d before own.is (not-false (is_electing d.role) p.1.0) (not-false (is_elected (of_cards r.size) i d) p.1.1.0)) (replied ForEpoch c.win.result) c.win.new.card (c.win.ensures ∙ by_member d c.member-member.ensures) in
    record { few = after.few; seven = after.seven; fit = after.fit; sound = after.sound }

pub returns-in_err-win-clause-step : goal.returns-in_err-win-clause-step
returns-in_err-win-clause-step c =
    let r = c.args.self.now in
    let i = c.args.card in
    let own = found_there r i c.in_ok-seat.field-0 (found r i c.in_ok-seat.field-0 c.in_ok-seat.ensures.value) in
    let d = (own_seat r i).card in
    let before : sound_card d ≡ true = sound_found r i (own_seat r i) own in
    let f = c.in_err-win.field-0.0 in
    let e = c.in_err-win.ensures ∙ by_member d c.member-member.ensures in
    let after = with_card_alone (checks r.size i) (λ e. ForEpoch e.newest) won_by r i own (λ p. sound_won (of_cards r.size) (card_count r.size) i d before own.is (not-false (is_electing d.role) p.1.0) (not-false (is_elected (of_cards r.size) i d) p.1.1.0)) (Err (card_refusal f)) c.win.new.card e in
    let reply = told_card ForEpoch c.from_residual-in_err-win.result f c.from_residual-in_err-win.ensures.1 in
    λ entries lanes. (λ k. (reply k, view after entries (λ _. tt {0}) lanes)) ∙ alone_answered (checks r.size i) (λ e. ForEpoch e.newest) won_by r i own (λ p. sound_won (of_cards r.size) (card_count r.size) i d before own.is (not-false (is_electing d.role) p.1.0) (not-false (is_elected (of_cards r.size) i d) p.1.1.0)) (Err (card_refusal f)) c.win.new.card e entries (λ _. tt {0}) lanes

pub returns-clause-step : goal.returns-clause-step
returns-clause-step c =
    let r = c.args.self.now in
    let i = c.args.card in
    let own = found_there r i c.in_ok-seat.field-0 (found r i c.in_ok-seat.field-0 c.in_ok-seat.ensures.value) in
    let d = (own_seat r i).card in
    let before : sound_card d ≡ true = sound_found r i (own_seat r i) own in
    λ entries lanes. alone_answered (checks r.size i) (λ e. ForEpoch e.newest) won_by r i own (λ p. sound_won (of_cards r.size) (card_count r.size) i d before own.is (not-false (is_electing d.role) p.1.0) (not-false (is_elected (of_cards r.size) i d) p.1.1.0)) (Ok (ForEpoch c.in_ok-win.field-0)) c.win.new.card (c.in_ok-win.ensures ∙ by_member d c.member-member.ensures) entries (λ _. tt {0}) lanes
