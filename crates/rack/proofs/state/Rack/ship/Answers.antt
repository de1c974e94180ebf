use Rattle.std.proofs.Common.{◌≡◌, Ok, Err, sym, ◌∙◌}
use Rattle.std.proofs.lemmas.Bool.{and_from, eq-eqb}
use Rattle.protocol.specs.Rack.{no_peer}
use Rattle.protocol.specs.declared.answer.Answer.TheVariants.{Count}
use Rattle.cards.specs.Faults.{card_refusal, replied}
use Rattle.cards.specs.Sizes.{card_count}
use Rattle.rack.specs.View.{view, sizes, entries_fit, cards_fit}
use Rattle.rack.specs.declared.seat.Seat.{Seat}
use Rattle.rack.specs.declared.state.Rack.{Rack}
use Rattle.rack.proofs.Refused.{told_card}
use Rattle.rack.proofs.Calls.{lent_fits}
use Rattle.rack.proofs.Peers.{paired}
use Rattle.rack.proofs.Places.{own_seat, paired_there, with_seat, with_seat_written}
use Rattle.rack.proofs.Ships.{ship_answered, ship_sound}
use Rattle.rack.proofs.Views.{used_found}
use Rattle.rack.proofs.state.Rack.ship.Goals as goal

pub invariant_of-self : goal.invariant_of-self
invariant_of-self g c =
    let b = g.B.Backplane in
    let r = c.args.self.now in
    let i = c.args.card in
    let j = c.args.peer in
    let at = c.args.backplane.now in
    let first = c.in_ok-seat_to.field-0 in
    let pair = paired_there r i j first (paired r i j first c.in_ok-seat_to.ensures.value) in
    let log = c.in_ok-log.log.now in
    let seen = c.in_ok-log.ensures.seen in
    let wide : b.count at ≡ card_count r.size = sym c.cards.ensures ∙ c.if-cards.false ∙ c.cards-2.ensures in
    let left : Seat = record { card = c.ship.new.card; used = (own_seat r i).used } in
    let sound = ship_sound r i j (b.room at) c.args.entries.now (λ _. tt {0}) (b.lanes at) (own_seat r i) pair log seen.2 (b.count at) wide (replied Count c.ship.result) c.ship.new.card (b.lanes c.ship.new.backplane) c.ship.ensures.part in
    let after = with_seat r i left sound (used_found r i (own_seat r i) pair.found) in
    record { few = after.few; seven = after.seven; fit = after.fit; sound = after.sound }

pub returns-in_err-ship-clause-step : goal.returns-in_err-ship-clause-step
returns-in_err-ship-clause-step g c =
    let b = g.B.Backplane in
    let r = c.args.self.now in
    let i = c.args.card in
    let j = c.args.peer in
    let at = c.args.backplane.now in
    let xs = c.args.entries.now in
    let first = c.in_ok-seat_to.field-0 in
    let pair = paired_there r i j first (paired r i j first c.in_ok-seat_to.ensures.value) in
    let log = c.in_ok-log.log.now in
    let seen = c.in_ok-log.ensures.seen in
    let wide : b.count at ≡ card_count r.size = sym c.cards.ensures ∙ c.if-cards.false ∙ c.cards-2.ensures in
    let f = c.in_err-ship.field-0.0 in
    let reply = told_card Count c.from_residual-in_err-ship.result f c.from_residual-in_err-ship.ensures.1 in
    let part = c.in_err-ship.ensures.part in
    let left : Seat = record { card = c.ship.new.card; used = (own_seat r i).used } in
    let sound = ship_sound r i j (b.room at) xs (λ _. tt {0}) (b.lanes at) (own_seat r i) pair log seen.2 (b.count at) wide (Err (card_refusal f)) c.ship.new.card (b.lanes c.ship.new.backplane) part in
    let fits = used_found r i (own_seat r i) pair.found in
    let after : Rack = with_seat r i left sound fits in
    (λ k. (reply k, view after xs (λ _. tt {0}) (b.lanes c.ship.new.backplane)))
    ∙ ship_answered r i j (b.room at) xs (λ _. tt {0}) (b.lanes at) (own_seat r i) pair log seen.2 (b.count at) wide (Err (card_refusal f)) c.ship.new.card (b.lanes c.ship.new.backplane) after part (with_seat_written r i left sound fits)
    ∙ sym (lent_fits (no_peer (sizes r (b.room at)) i j) _ _ _ (and_from (entries_fit r xs) (cards_fit r (b.count at)) seen.1 (eq-eqb (b.count at) (card_count r.size) wide)))

pub returns-clause-step : goal.returns-clause-step
returns-clause-step g c =
    let b = g.B.Backplane in
    let r = c.args.self.now in
    let i = c.args.card in
    let j = c.args.peer in
    let at = c.args.backplane.now in
    let xs = c.args.entries.now in
    let first = c.in_ok-seat_to.field-0 in
    let pair = paired_there r i j first (paired r i j first c.in_ok-seat_to.ensures.value) in
    let log = c.in_ok-log.log.now in
    let seen = c.in_ok-log.ensures.seen in
    let wide : b.count at ≡ card_count r.size = sym c.cards.ensures ∙ c.if-cards.false ∙ c.cards-2.ensures in
    let said = Ok (Count c.in_ok-ship.field-0) in
    let part = c.in_ok-ship.ensures.part in
    let left : Seat = record { card = c.ship.new.card; used = (own_seat r i).used } in
    let sound = ship_sound r i j (b.room at) xs (λ _. tt {0}) (b.lanes at) (own_seat r i) pair log seen.2 (b.count at) wide said c.ship.new.card (b.lanes c.ship.new.backplane) part in
    let fits = used_found r i (own_seat r i) pair.found in
    ship_answered r i j (b.room at) xs (λ _. tt {0}) (b.lanes at) (own_seat r i) pair log seen.2 (b.count at) wide said c.ship.new.card (b.lanes c.ship.new.backplane) (with_seat r i left sound fits) part (with_seat_written r i left sound fits)
    ∙ sym (lent_fits (no_peer (sizes r (b.room at)) i j) _ _ _ (and_from (entries_fit r xs) (cards_fit r (b.count at)) seen.1 (eq-eqb (b.count at) (card_count r.size) wide)))
