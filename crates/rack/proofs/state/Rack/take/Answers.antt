use Rattle.std.proofs.Common.{◌≡◌, ℕ, ◌≤◌, length, take, drop, Ok, Err, sym, refl, ap, ◌∙◌, arith}
use Rattle.std.proofs.lemmas.Bool.{and_from, eq-eqb}
use Rattle.protocol.specs.Rack.{no_peer}
use Rattle.protocol.specs.declared.answer.Answer.TheVariants.{Took}
use Rattle.cards.specs.Faults.{card_refusal}
use Rattle.cards.specs.LaneViews.{lane_fields}
use Rattle.cards.specs.Sizes.{card_count}
use Rattle.cards.proofs.Stays.{stays}
use Rattle.logs.specs.Log.{log_of}
use Rattle.taking.specs.Parts.{take_part}
use Rattle.rack.specs.View.{part_of, view, sizes, entries_fit, cards_fit}
use Rattle.rack.specs.declared.seat.Seat.{Seat}
use Rattle.rack.specs.declared.state.Rack.{Rack}
use Rattle.rack.proofs.Refused.{told_card}
use Rattle.rack.proofs.Parts.{part_long, replaced, put_same, joined}
use Rattle.rack.proofs.Views.{used_found}
use Rattle.rack.proofs.Calls.{lent_fits, entries_fit_lem, slice_is}
use Rattle.rack.proofs.Peers.{paired}
use Rattle.rack.proofs.Places.{own_seat, paired_there, with_seat, with_seat_written, with_both_moved, both_written}
use Rattle.rack.proofs.Takes.{take_answered, take_refused, take_sound}
use Rattle.rack.proofs.state.Rack.take.Goals as goal

pub invariant_of-self : goal.invariant_of-self
invariant_of-self g c =
    let b = g.B.Backplane in
    let r = c.args.self.now in
    let n = card_count r.size in
    let i = c.args.card in
    let j = c.args.peer in
    let at = c.args.backplane.now in
    let xs = c.args.entries.now in
    let low = c.start.result in
    let copy = paired r i j c.in_ok-used.field-0 c.in_ok-used.ensures.value in
    let pair = paired_there r i j c.in_ok-used.field-0 copy in
    let seat = own_seat r i in
    let as_used : c.in_ok-used.field-0.used ≡ seat.used = copy.found.used ∙ sym pair.found.used in
    let wide : b.count at ≡ n = sym c.cards.ensures ∙ c.if-cards.false ∙ c.cards-else-entries-total.ensures in
    let long = c.if-entries-total.false ∙ c.total.ensures in
    let apart = c.split_at_mut-rest.ensures in
    let mine = c.split_at_mut-places.ensures in
    let places = c.split_at_mut-places.result.0.now in
    let cut : places ≡ take r.places (drop low xs) = mine.front ∙ ap (take r.places) apart.back in
    let slice : places ≡ part_of r.places i xs = cut ∙ slice_is r i low xs c.start.ensures.start in
    let fits = used_found r i seat pair.found in
    let same_log = ap (λ (u : ℕ). take_part (b.count at) (length places) i j (seat.card, log_of places u, lane_fields (b.lanes at))) as_used in
    let left : Seat = record { card = c.take.new.card; used = seat.used } in
    let sound = take_sound r i j (b.room at) xs (λ _. tt {0}) (b.lanes at) long seat pair places slice (b.count at) wide (Err (card_refusal c.in_err-intake.field-0.0)) _ (c.in_err-intake.ensures.part ∙ same_log) in
    let after = with_seat r i left sound fits in
    record { few = after.few; seven = after.seven; fit = after.fit; sound = after.sound }

pub returns-in_err-intake : goal.returns-in_err-intake
returns-in_err-intake g c =
    let b = g.B.Backplane in
    let r = c.args.self.now in
    let n = card_count r.size in
    let i = c.args.card in
    let j = c.args.peer in
    let at = c.args.backplane.now in
    let xs = c.args.entries.now in
    let low = c.start.result in
    let copy = paired r i j c.in_ok-used.field-0 c.in_ok-used.ensures.value in
    let pair = paired_there r i j c.in_ok-used.field-0 copy in
    let seat = own_seat r i in
    let as_used : c.in_ok-used.field-0.used ≡ seat.used = copy.found.used ∙ sym pair.found.used in
    let wide : b.count at ≡ n = sym c.cards.ensures ∙ c.if-cards.false ∙ c.cards-else-entries-total.ensures in
    let long = c.if-entries-total.false ∙ c.total.ensures in
    let apart = c.split_at_mut-rest.ensures in
    let mine = c.split_at_mut-places.ensures in
    let places = c.split_at_mut-places.result.0.now in
    let cut : places ≡ take r.places (drop low xs) = mine.front ∙ ap (take r.places) apart.back in
    let slice : places ≡ part_of r.places i xs = cut ∙ slice_is r i low xs c.start.ensures.start in
    let fits = used_found r i seat pair.found in
    let same_log = ap (λ (u : ℕ). take_part (b.count at) (length places) i j (seat.card, log_of places u, lane_fields (b.lanes at))) as_used in
    let f = c.in_err-intake.field-0.0 in
    let part = c.in_err-intake.ensures in
    let left : Seat = record { card = c.take.new.card; used = seat.used } in
    let sound = take_sound r i j (b.room at) xs (λ _. tt {0}) (b.lanes at) long seat pair places slice (b.count at) wide (Err (card_refusal f)) _ (part.part ∙ same_log) in
    let after : Rack = with_seat r i left sound fits in
    let given = c.in_err-intake.places-1-own.given.1.1 (sym part.same.0) in
    let same = joined low r.places xs _ _ _ _ _ apart.front apart.back mine.back (given ∙ part.stays.0 ∙ cut) ∙ put_same low r.places xs in
    let reply = told_card Took c.from_residual-in_err-intake.result f c.from_residual-in_err-intake.ensures.1 in
    record {
      step =
          (λ k. (reply k, view after (same k) (λ _. tt {0}) (b.lanes c.take.new.backplane)))
          ∙ take_refused r i j (b.room at) xs (λ _. tt {0}) (b.lanes at) long seat pair places slice (b.count at) wide (card_refusal f) _ (b.lanes c.take.new.backplane) after refl (part.part ∙ same_log) (with_seat_written r i left sound fits)
          ∙ sym (lent_fits (no_peer (sizes r (b.room at)) i j) _ _ _ (and_from (entries_fit r xs) (cards_fit r (b.count at)) (entries_fit_lem r xs long) (eq-eqb (b.count at) n wide)));
      sizes = refl;
      stays = stays c.from_residual-in_err-intake.result same;
      count = part.count;
      room = part.room;
    }

pub invariant_of-self-2 : goal.invariant_of-self-2
invariant_of-self-2 g c =
    let b = g.B.Backplane in
    let r = c.args.self.now in
    let n = card_count r.size in
    let i = c.args.card in
    let j = c.args.peer in
    let at = c.args.backplane.now in
    let xs = c.args.entries.now in
    let low = c.start.result in
    let copy = paired r i j c.in_ok-used.field-0 c.in_ok-used.ensures.value in
    let pair = paired_there r i j c.in_ok-used.field-0 copy in
    let seat = own_seat r i in
    let as_used : c.in_ok-used.field-0.used ≡ seat.used = copy.found.used ∙ sym pair.found.used in
    let wide : b.count at ≡ n = sym c.cards.ensures ∙ c.if-cards.false ∙ c.cards-else-entries-total.ensures in
    let long = c.if-entries-total.false ∙ c.total.ensures in
    let apart = c.split_at_mut-rest.ensures in
    let mine = c.split_at_mut-places.ensures in
    let places = c.split_at_mut-places.result.0.now in
    let cut : places ≡ take r.places (drop low xs) = mine.front ∙ ap (take r.places) apart.back in
    let slice : places ≡ part_of r.places i xs = cut ∙ slice_is r i low xs c.start.ensures.start in
    let fits = used_found r i seat pair.found in
    let same_log = ap (λ (u : ℕ). take_part (b.count at) (length places) i j (seat.card, log_of places u, lane_fields (b.lanes at))) as_used in
    let part = c.in_ok-intake.ensures in
    let span : length places ≡ r.places = ap length slice ∙ part_long n i r.places xs pair.card long in
    let sound = take_sound r i j (b.room at) xs (λ _. tt {0}) (b.lanes at) long seat pair places slice (b.count at) wide (Ok (Took c.in_ok-intake.intake)) _ (part.part ∙ same_log) in
    let after = with_both_moved r i c.take.new.card c.take.new.log.used pair.card sound fits (omega (arith, c.take.new.log.fit, part.same.1, span)) in
    record { few = after.few; seven = after.seven; fit = after.fit; sound = after.sound }

pub returns-clause-step : goal.returns-clause-step
returns-clause-step g c =
    let b = g.B.Backplane in
    let r = c.args.self.now in
    let n = card_count r.size in
    let i = c.args.card in
    let j = c.args.peer in
    let at = c.args.backplane.now in
    let xs = c.args.entries.now in
    let low = c.start.result in
    let copy = paired r i j c.in_ok-used.field-0 c.in_ok-used.ensures.value in
    let pair = paired_there r i j c.in_ok-used.field-0 copy in
    let seat = own_seat r i in
    let as_used : c.in_ok-used.field-0.used ≡ seat.used = copy.found.used ∙ sym pair.found.used in
    let wide : b.count at ≡ n = sym c.cards.ensures ∙ c.if-cards.false ∙ c.cards-else-entries-total.ensures in
    let long = c.if-entries-total.false ∙ c.total.ensures in
    let apart = c.split_at_mut-rest.ensures in
    let mine = c.split_at_mut-places.ensures in
    let places = c.split_at_mut-places.result.0.now in
    let cut : places ≡ take r.places (drop low xs) = mine.front ∙ ap (take r.places) apart.back in
    let slice : places ≡ part_of r.places i xs = cut ∙ slice_is r i low xs c.start.ensures.start in
    let fits = used_found r i seat pair.found in
    let same_log = ap (λ (u : ℕ). take_part (b.count at) (length places) i j (seat.card, log_of places u, lane_fields (b.lanes at))) as_used in
    let part = c.in_ok-intake.ensures in
    let now = c.take.new.log.places.now in
    let given = c.places-2-1.given.1.1 (sym part.same.0) in
    let whole = joined low r.places xs _ _ _ _ now apart.front apart.back mine.back given in
    let span : length places ≡ r.places = ap length slice ∙ part_long n i r.places xs pair.card long in
    let said = Ok (Took c.in_ok-intake.intake) in
    let sound = take_sound r i j (b.room at) xs (λ _. tt {0}) (b.lanes at) long seat pair places slice (b.count at) wide said _ (part.part ∙ same_log) in
    let used_fits : c.take.new.log.used ≤ r.places = omega (arith, c.take.new.log.fit, part.same.1, span) in
    let after : Rack = with_both_moved r i c.take.new.card c.take.new.log.used pair.card sound fits used_fits in
    take_answered r i j (b.room at) xs (λ _. tt {0}) (b.lanes at) long seat pair places slice (b.count at) wide said c.take.new.card c.take.new.log.used (b.lanes c.take.new.backplane) _ now after (part.part ∙ same_log) (both_written r i c.take.new.card c.take.new.log.used pair.card sound fits used_fits) (replaced n r.places i xs _ now low r.places pair.card long (part.same.1 ∙ span) c.start.ensures.start refl whole)
    ∙ sym (lent_fits (no_peer (sizes r (b.room at)) i j) _ _ _ (and_from (entries_fit r xs) (cards_fit r (b.count at)) (entries_fit_lem r xs long) (eq-eqb (b.count at) n wide)))
