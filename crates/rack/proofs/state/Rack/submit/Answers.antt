use Rattle.std.proofs.Common.{◌≡◌, ℕ, ◌≤◌, [], length, take, drop, Ok, Err, sym, refl, ap, ◌∙◌, arith}
use Rattle.std.proofs.lemmas.Bool.{lt-ltb, le-ltb}
use Rattle.protocol.specs.Rack.{no_card}
use Rattle.protocol.specs.declared.answer.Answer.TheVariants.{Placed}
use Rattle.cards.specs.Faults.{card_refusal}
use Rattle.cards.specs.Sizes.{card_count}
use Rattle.cards.proofs.Stays.{stays}
use Rattle.card_log.specs.Parts.{submit_log}
use Rattle.logs.specs.Log.{log_of}
use Rattle.rack.specs.View.{part_of, view, sizes}
use Rattle.rack.specs.declared.seat.Seat.{Seat}
use Rattle.rack.specs.declared.state.Rack.{Rack}
use Rattle.rack.proofs.Views.{found, used_found}
use Rattle.rack.proofs.Refused.{told_card}
use Rattle.rack.proofs.Parts.{part_long, replaced, put_same, joined}
use Rattle.rack.proofs.Calls.{lent_fits, entries_fit_lem, slice_is}
use Rattle.rack.proofs.Places.{own_seat, found_there, with_seat, with_seat_written, with_both_moved, both_written}
use Rattle.rack.proofs.Submits.{submit_queue, submit_answered, submit_refused, submit_sound}
use Rattle.rack.proofs.state.Rack.submit.Goals as goal

pub returns-then-queue-gt-LAST_QUEUE : goal.returns-then-queue-gt-LAST_QUEUE
returns-then-queue-gt-LAST_QUEUE c =
    let r = c.args.self.now in
    let i = c.args.card in
    let own = found r i c.in_ok-used.field-0 c.in_ok-used.ensures.value in
    record {
      step = λ lanes.
          submit_queue r i c.args.queue 0 c.args.payload c.args.entries.now (λ _. tt {0}) lanes own.is (lt-ltb 15 c.args.queue c.if-queue-gt-LAST_QUEUE.true)
          ∙ sym (lent_fits (no_card (sizes r 0) i) _ _ _ (entries_fit_lem r c.args.entries.now (c.if-entries-total.false ∙ c.total.ensures)));
      sizes = refl;
      stays = refl;
    }

pub invariant_of-self : goal.invariant_of-self
invariant_of-self c =
    let r = c.args.self.now in
    let i = c.args.card in
    let q = c.args.queue in
    let w = c.args.payload in
    let xs = c.args.entries.now in
    let low = c.start.result in
    let copy = found r i c.in_ok-used.field-0 c.in_ok-used.ensures.value in
    let own = found_there r i c.in_ok-used.field-0 copy in
    let seat = own_seat r i in
    let as_used : c.in_ok-used.field-0.used ≡ seat.used = copy.used ∙ sym own.used in
    let long = c.if-entries-total.false ∙ c.total.ensures in
    let small = le-ltb 15 q c.if-queue-gt-LAST_QUEUE.false in
    let apart = c.split_at_mut-rest.ensures in
    let mine = c.split_at_mut-places.ensures in
    let places = c.split_at_mut-places.result.0.now in
    let cut : places ≡ take r.places (drop low xs) = mine.front ∙ ap (take r.places) apart.back in
    let slice : places ≡ part_of r.places i xs = cut ∙ slice_is r i low xs c.start.ensures.start in
    let fits = used_found r i seat own in
    let same_log = ap (λ (u : ℕ). submit_log (length places) q w (seat.card, log_of places u, r.tally)) as_used in
    let left : Seat = record { card = c.submit.new.card; used = seat.used } in
    let sound = submit_sound r i q 0 w xs (λ _. tt {0}) (λ _ _ _. []) own.is long small seat own places slice (Err (card_refusal c.in_err-header.field-0.0)) _ (c.in_err-header.ensures.part ∙ same_log) in
    let after = with_seat r i left sound fits in
    record { few = after.few; seven = after.seven; fit = after.fit; sound = after.sound }

pub returns-in_err-header : goal.returns-in_err-header
returns-in_err-header c =
    let r = c.args.self.now in
    let i = c.args.card in
    let q = c.args.queue in
    let w = c.args.payload in
    let xs = c.args.entries.now in
    let low = c.start.result in
    let copy = found r i c.in_ok-used.field-0 c.in_ok-used.ensures.value in
    let own = found_there r i c.in_ok-used.field-0 copy in
    let seat = own_seat r i in
    let as_used : c.in_ok-used.field-0.used ≡ seat.used = copy.used ∙ sym own.used in
    let long = c.if-entries-total.false ∙ c.total.ensures in
    let small = le-ltb 15 q c.if-queue-gt-LAST_QUEUE.false in
    let apart = c.split_at_mut-rest.ensures in
    let mine = c.split_at_mut-places.ensures in
    let places = c.split_at_mut-places.result.0.now in
    let cut : places ≡ take r.places (drop low xs) = mine.front ∙ ap (take r.places) apart.back in
    let slice : places ≡ part_of r.places i xs = cut ∙ slice_is r i low xs c.start.ensures.start in
    let fits = used_found r i seat own in
    let same_log = ap (λ (u : ℕ). submit_log (length places) q w (seat.card, log_of places u, r.tally)) as_used in
    let f = c.in_err-header.field-0.0 in
    let part = c.in_err-header.ensures in
    let left : Seat = record { card = c.submit.new.card; used = seat.used } in
    let sound = submit_sound r i q 0 w xs (λ _. tt {0}) (λ _ _ _. []) own.is long small seat own places slice (Err (card_refusal f)) _ (part.part ∙ same_log) in
    let after : Rack = with_seat r i left sound fits in
    let given = c.in_err-header.places-1-own.given.1.1 (sym part.same.0) in
    let same = joined low r.places xs _ _ _ _ _ apart.front apart.back mine.back (given ∙ part.stays.0 ∙ cut) ∙ put_same low r.places xs in
    let reply = told_card Placed c.from_residual-in_err-header.result f c.from_residual-in_err-header.ensures.1 in
    record {
      step = λ lanes.
          (λ k. (reply k, view after (same k) (λ _. tt {0}) lanes))
          ∙ submit_refused r i q 0 w xs (λ _. tt {0}) lanes own.is long small seat own places slice (card_refusal f) _ after (part.part ∙ same_log) (with_seat_written r i left sound fits)
          ∙ sym (lent_fits (no_card (sizes r 0) i) _ _ _ (entries_fit_lem r xs long));
      sizes = refl;
      stays = stays c.from_residual-in_err-header.result same;
    }

pub invariant_of-self-2 : goal.invariant_of-self-2
invariant_of-self-2 c =
    let r = c.args.self.now in
    let i = c.args.card in
    let q = c.args.queue in
    let w = c.args.payload in
    let xs = c.args.entries.now in
    let low = c.start.result in
    let copy = found r i c.in_ok-used.field-0 c.in_ok-used.ensures.value in
    let own = found_there r i c.in_ok-used.field-0 copy in
    let seat = own_seat r i in
    let as_used : c.in_ok-used.field-0.used ≡ seat.used = copy.used ∙ sym own.used in
    let long = c.if-entries-total.false ∙ c.total.ensures in
    let small = le-ltb 15 q c.if-queue-gt-LAST_QUEUE.false in
    let apart = c.split_at_mut-rest.ensures in
    let mine = c.split_at_mut-places.ensures in
    let places = c.split_at_mut-places.result.0.now in
    let cut : places ≡ take r.places (drop low xs) = mine.front ∙ ap (take r.places) apart.back in
    let slice : places ≡ part_of r.places i xs = cut ∙ slice_is r i low xs c.start.ensures.start in
    let fits = used_found r i seat own in
    let same_log = ap (λ (u : ℕ). submit_log (length places) q w (seat.card, log_of places u, r.tally)) as_used in
    let part = c.in_ok-header.ensures in
    let wide : length places ≡ r.places = ap length slice ∙ part_long (card_count r.size) i r.places xs own.is long in
    let sound = submit_sound r i q 0 w xs (λ _. tt {0}) (λ _ _ _. []) own.is long small seat own places slice (Ok (Placed c.in_ok-header.header)) _ (part.part ∙ same_log) in
    let after = with_both_moved r i c.submit.new.card c.submit.new.log.used own.is sound fits (omega (arith, c.submit.new.log.fit, part.same.1, wide)) in
    record { few = after.few; seven = after.seven; fit = after.fit; sound = after.sound }

pub returns-clause-step : goal.returns-clause-step
returns-clause-step c =
    let r = c.args.self.now in
    let i = c.args.card in
    let q = c.args.queue in
    let w = c.args.payload in
    let xs = c.args.entries.now in
    let low = c.start.result in
    let copy = found r i c.in_ok-used.field-0 c.in_ok-used.ensures.value in
    let own = found_there r i c.in_ok-used.field-0 copy in
    let seat = own_seat r i in
    let as_used : c.in_ok-used.field-0.used ≡ seat.used = copy.used ∙ sym own.used in
    let long = c.if-entries-total.false ∙ c.total.ensures in
    let small = le-ltb 15 q c.if-queue-gt-LAST_QUEUE.false in
    let apart = c.split_at_mut-rest.ensures in
    let mine = c.split_at_mut-places.ensures in
    let places = c.split_at_mut-places.result.0.now in
    let cut : places ≡ take r.places (drop low xs) = mine.front ∙ ap (take r.places) apart.back in
    let slice : places ≡ part_of r.places i xs = cut ∙ slice_is r i low xs c.start.ensures.start in
    let fits = used_found r i seat own in
    let same_log = ap (λ (u : ℕ). submit_log (length places) q w (seat.card, log_of places u, r.tally)) as_used in
    let part = c.in_ok-header.ensures in
    let now = c.submit.new.log.places.now in
    let given = c.places-2-1.given.1.1 (sym part.same.0) in
    let whole = joined low r.places xs _ _ _ _ now apart.front apart.back mine.back given in
    let wide : length places ≡ r.places = ap length slice ∙ part_long (card_count r.size) i r.places xs own.is long in
    let said = Ok (Placed c.in_ok-header.header) in
    let sound = submit_sound r i q 0 w xs (λ _. tt {0}) (λ _ _ _. []) own.is long small seat own places slice said _ (part.part ∙ same_log) in
    let used_fits : c.submit.new.log.used ≤ r.places = omega (arith, c.submit.new.log.fit, part.same.1, wide) in
    let moved : Rack = with_both_moved r i c.submit.new.card c.submit.new.log.used own.is sound fits used_fits in
    let after : Rack = record { size = r.size; places = r.places; tally = c.submit.new.tally; seats = moved.seats; few = moved.few; seven = moved.seven; fit = moved.fit; sound = moved.sound } in
    let ch = both_written r i c.submit.new.card c.submit.new.log.used own.is sound fits used_fits in
    λ lanes.
    submit_answered r i q 0 w xs (λ _. tt {0}) lanes own.is long small seat own places slice said _ (part.part ∙ same_log) after c.submit.new.log.used _ now (record { seats = ch.seats; size = refl; places = refl; tally = refl }) refl (replaced (card_count r.size) r.places i xs _ now low r.places own.is long (part.same.1 ∙ wide) c.start.ensures.start refl whole)
    ∙ sym (lent_fits (no_card (sizes r 0) i) _ _ _ (entries_fit_lem r xs long))
