use Rattle.std.proofs.Common.{◌≡◌, ℕ, ◌-◌, ◌≤◌, true, false, [], get_or, Ok, Err, sym, refl, ◌∙◌, subst, length-set}
use Rattle.std.proofs.lemmas.Bool.{eq-eqb}
use Rattle.protocol.specs.Rack.{no_peer, is_row_kind, opened_card}
use Rattle.protocol.specs.declared.card.Role.TheVariants.{Electing}
use Rattle.protocol.specs.declared.answer.Answer.TheVariants.{Done}
use Rattle.cards.specs.Faults.{replied, card_refusal}
use Rattle.cards.specs.Sizes.{card_count}
use Rattle.rack.specs.View.{sizes}
use Rattle.rack.proofs.Refused.{told_card}
use Rattle.rack.proofs.Calls.{lent_fits}
use Rattle.rack.proofs.Peers.{Pair, paired}
use Rattle.rack.proofs.Sounds.{sound_set}
use Rattle.rack.specs.Seats.{cards_in, used_in}
use Rattle.rack.specs.Sound.{sound_card}
use Rattle.rack.specs.declared.seat.Seat.{Seat}
use Rattle.rack.proofs.Parts.{fits_set}
use Rattle.rack.proofs.Views.{map_set, seat_found, seat_read, used_found, view_set}
use Rattle.rack.proofs.Exchanges.{look_done, look_sound}
use Rattle.rack.proofs.state.Rack.look.Goals as goal

-- what a place of no card would read as
abbrev zeroed : Seat
zeroed = record { used = 0; card = record { role = Electing; stopped = false; current = (0, 0); newest = (0, 0); accepted = (0, 0, 0); committed = (0, 0, 0); next = (0, 0, 0); vote = ((0, 0), (0, 0, 0)); peers = record { rows = [] } } }

pub invariant_of-self : goal.invariant_of-self
invariant_of-self g c =
    let b = g.B.Backplane in
    let r = c.args.self.now in
    let i = c.args.card in
    let j = c.args.peer in
    let kind = c.args.kind in
    let at = c.args.backplane.now in
    let named = paired r i j c.in_ok-seat_to.field-0 c.in_ok-seat_to.ensures.value in
    let seat = get_or r.seats (i - 1) zeroed in
    let pair : Pair r i j seat = record { card = named.card; peer = named.peer; apart = named.apart; here = named.here; found = seat_found r i seat named.card (seat_read r i zeroed named.card) } in
    let wide : b.count at ≡ card_count r.size = sym c.cards.ensures ∙ c.if-cards.false ∙ c.cards-2.ensures in
    let is : is_row_kind kind ≡ true = sym c.is_row_kind.ensures ∙ c.if-not-is_row_kind.false in
    let sound = look_sound r i j kind (b.room at) [] (λ _. tt {0}) (b.lanes at) seat pair is (b.count at) wide (replied (λ _. Done) c.look.result) c.look.new.card (b.lanes c.look.new.backplane) c.look.ensures.part in
    let left : Seat = record { card = c.look.new.card; used = seat.used } in
    record {
      few = r.few;
      seven = length-set r.seats (i - 1) left ∙ r.seven;
      fit = subst (λ us. (k : ℕ) → get_or us k 0 ≤ r.places) (sym (map_set (λ (s : Seat). s.used) r.seats (i - 1) left)) (fits_set (used_in r.seats) (i - 1) left.used r.places (used_found r i seat pair.found) r.fit);
      sound = subst (λ cs. (k : ℕ) → sound_card (get_or cs k opened_card) ≡ true) (sym (map_set (λ (s : Seat). s.card) r.seats (i - 1) left)) (sound_set (cards_in r.seats) (i - 1) left.card sound r.sound);
    }

pub returns-in_err-look : goal.returns-in_err-look
returns-in_err-look g c =
    let b = g.B.Backplane in
    let r = c.args.self.now in
    let i = c.args.card in
    let j = c.args.peer in
    let kind = c.args.kind in
    let at = c.args.backplane.now in
    let named = paired r i j c.in_ok-seat_to.field-0 c.in_ok-seat_to.ensures.value in
    let seat = get_or r.seats (i - 1) zeroed in
    let pair : Pair r i j seat = record { card = named.card; peer = named.peer; apart = named.apart; here = named.here; found = seat_found r i seat named.card (seat_read r i zeroed named.card) } in
    let wide : b.count at ≡ card_count r.size = sym c.cards.ensures ∙ c.if-cards.false ∙ c.cards-2.ensures in
    let is : is_row_kind kind ≡ true = sym c.is_row_kind.ensures ∙ c.if-not-is_row_kind.false in
    let f = c.in_err-look.field-0.0 in
    let reply = told_card (λ _. Done) c.from_residual-in_err-look.result f c.from_residual-in_err-look.ensures.1 in
    let part = c.in_err-look.ensures in
    record {
      step = λ entries.
          (λ k. (reply k, view_set r i c.look.new.card seat.used entries (λ _. tt {0}) (b.lanes c.look.new.backplane) pair.card pair.found.used k))
          ∙ look_done r i j kind (b.room at) entries (λ _. tt {0}) (b.lanes at) seat pair is (b.count at) wide (Err (card_refusal f)) c.look.new.card (b.lanes c.look.new.backplane) part.part
          ∙ sym (lent_fits (no_peer (sizes r (b.room at)) i j) _ _ _ (eq-eqb (b.count at) (card_count r.size) wide));
      sizes = refl;
      count = part.count;
      room = part.room;
    }

pub returns : goal.returns
returns g c =
    let b = g.B.Backplane in
    let r = c.args.self.now in
    let i = c.args.card in
    let j = c.args.peer in
    let kind = c.args.kind in
    let at = c.args.backplane.now in
    let named = paired r i j c.in_ok-seat_to.field-0 c.in_ok-seat_to.ensures.value in
    let seat = get_or r.seats (i - 1) zeroed in
    let pair : Pair r i j seat = record { card = named.card; peer = named.peer; apart = named.apart; here = named.here; found = seat_found r i seat named.card (seat_read r i zeroed named.card) } in
    let wide : b.count at ≡ card_count r.size = sym c.cards.ensures ∙ c.if-cards.false ∙ c.cards-2.ensures in
    let is : is_row_kind kind ≡ true = sym c.is_row_kind.ensures ∙ c.if-not-is_row_kind.false in
    let part = c.in_ok-look.ensures in
    record {
      step = λ entries.
          (λ k. (Ok Done, view_set r i c.look.new.card seat.used entries (λ _. tt {0}) (b.lanes c.look.new.backplane) pair.card pair.found.used k))
          ∙ look_done r i j kind (b.room at) entries (λ _. tt {0}) (b.lanes at) seat pair is (b.count at) wide (Ok Done) c.look.new.card (b.lanes c.look.new.backplane) part.part
          ∙ sym (lent_fits (no_peer (sizes r (b.room at)) i j) _ _ _ (eq-eqb (b.count at) (card_count r.size) wide));
      sizes = refl;
      count = part.count;
      room = part.room;
    }
