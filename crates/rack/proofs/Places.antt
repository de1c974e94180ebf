-- A card that is changed in its place among the seats.
use Rattle.std.proofs.Common.{◌≡◌, ℕ, ◌-◌, ◌≤◌, Bool, true, false, not, List, [], ◌∷◌, length, get_or, set, sym, refl, ap, ◌∙◌, subst, arith, length-set}
use Rattle.std.proofs.lemmas.List.{get_or-set_same, set-set}
use Rattle.refusals.specs.declared.Refusal.{Refusal}
use Rattle.refusals.specs.declared.Refusal.TheVariants.{NoSuchCard}
use Rattle.backplane.specs.Lanes.{Lanes, is_card}
use Rattle.frames.specs.declared.entry.Entry.{Entry}
use Rattle.protocol.specs.Rack.{Reply, ask, with_card, opened_card}
use Rattle.protocol.specs.declared.answer.Answer.{Answer}
use Rattle.protocol.proofs.Asked.{Passed, ask_keeps}
use Rattle.protocol.specs.declared.card.Card.{Card}
use Rattle.protocol.specs.declared.card.Role.TheVariants.{Electing}
use Rattle.cards.specs.Sizes.{card_count}
use Rattle.rack.specs.Seats.{cards_in, used_in}
use Rattle.rack.specs.Sound.{sound_card}
use Rattle.rack.specs.View.{view}
use Rattle.rack.proofs.Written.{Written}
use Rattle.rack.specs.declared.seat.Seat.{Seat}
use Rattle.rack.specs.declared.state.Rack.{Rack}
use Rattle.rack.proofs.Parts.{card_low, card_high, fits_set}
use Rattle.rack.proofs.Peers.{Pair}
use Rattle.rack.proofs.Sounds.{sound_set}
use Rattle.rack.proofs.Views.{Found, carried, few, map_set, seat_found, seat_read, sound_found, used_found}

-- what a place of no card would read as
abbrev pub zeroed : Seat
zeroed = record { used = 0; card = record { role = Electing; stopped = false; current = (0, 0); newest = (0, 0); accepted = (0, 0, 0); committed = (0, 0, 0); next = (0, 0, 0); vote = ((0, 0), (0, 0, 0)); peers = record { rows = [] } } }

-- a card's seat, read where it stands
abbrev pub own_seat : Rack → ℕ → Seat
own_seat r i = get_or r.seats (i - 1) zeroed

pub found_there : (r : Rack) (i : ℕ) (seat : Seat) → Found r i seat → Found r i (own_seat r i)
found_there r i seat f = seat_found r i (own_seat r i) f.is (seat_read r i zeroed f.is)

pub paired_there : (r : Rack) (i j : ℕ) (seat : Seat) → Pair r i j seat → Pair r i j (own_seat r i)
paired_there r i j seat p = record { card = p.card; peer = p.peer; apart = p.apart; here = p.here; found = found_there r i seat p.found }

-- the rack with that seat written
module _ (r : Rack) (i : ℕ) (left : Seat) (sound : sound_card left.card ≡ true) (fits : left.used ≤ r.places) where
  pub seven_left : length (set r.seats (i - 1) left) ≡ 7
  seven_left = length-set r.seats (i - 1) left ∙ r.seven

  pub fit_left : (k : ℕ) → get_or (used_in (set r.seats (i - 1) left)) k 0 ≤ r.places
  fit_left = subst (λ us. (k : ℕ) → get_or us k 0 ≤ r.places) (sym (map_set (λ (s : Seat). s.used) r.seats (i - 1) left)) (fits_set (used_in r.seats) (i - 1) left.used r.places fits r.fit)

  pub sound_left : (k : ℕ) → sound_card (get_or (cards_in (set r.seats (i - 1) left)) k opened_card) ≡ true
  sound_left = subst (λ cs. (k : ℕ) → sound_card (get_or cs k opened_card) ≡ true) (sym (map_set (λ (s : Seat). s.card) r.seats (i - 1) left)) (sound_set (cards_in r.seats) (i - 1) left.card sound r.sound)

  abbrev pub with_seat : Rack
  with_seat = record { size = r.size; places = r.places; tally = r.tally; seats = set r.seats (i - 1) left; few = r.few; seven = seven_left; fit = fit_left; sound = sound_left }

  pub with_seat_written : Written r with_seat i left r.tally
  with_seat_written = record { seats = refl; size = refl; places = refl; tally = refl }

-- its card written in its place, and then how many places it uses
module _ (r : Rack) (i : ℕ) (c : Card) (u : ℕ) (is : is_card (card_count r.size) i ≡ true) (sound : sound_card c ≡ true) (fits : (own_seat r i).used ≤ r.places) (used_fits : u ≤ r.places) where
  abbrev pub moved_card : Seat
  moved_card = record { card = c; used = (own_seat r i).used }

  abbrev pub with_card_moved : Rack
  with_card_moved = with_seat r i moved_card sound fits

  moved_there : own_seat with_card_moved i ≡ moved_card
  moved_there = get_or-set_same r.seats (i - 1) moved_card zeroed (omega (arith, few r.size, card_low (card_count r.size) i is, card_high (card_count r.size) i is, r.seven))

  abbrev pub moved_both : Seat
  moved_both = record { card = (own_seat with_card_moved i).card; used = u }

  pub both_sound : sound_card moved_both.card ≡ true
  both_sound = ap (λ (s : Seat). sound_card s.card) moved_there ∙ sound

  abbrev pub with_both_moved : Rack
  with_both_moved = with_seat with_card_moved i moved_both both_sound used_fits

  pub both_written : Written r with_both_moved i (record { card = c; used = u }) r.tally
  both_written = record { seats = set-set r.seats (i - 1) moved_card moved_both ∙ (λ k. set r.seats (i - 1) (record { card = (moved_there k).card; used = u })); size = refl; places = refl; tally = refl }

-- a call that asks and changes its card alone
module _ (checks : Card → List (Bool × Refusal)) (answer : Card → Answer) (after : Card → Card) (r : Rack) (i : ℕ) (own : Found r i (own_seat r i)) where
  abbrev d : Card
  d = (own_seat r i).card

  module _ (keeps : Passed (checks d) → sound_card (after d) ≡ true) (reply : Reply) (c : Card) (e : (reply, c) ≡ ask (checks d) (answer d) (after d) d) where
    pub alone_sound : sound_card c ≡ true
    alone_sound = ap (λ (t : Reply × Card). sound_card t.1) e ∙ ask_keeps (λ (x : Card). sound_card x ≡ true) (checks d) (answer d) (after d) d (sound_found r i (own_seat r i) own) keeps

    abbrev pub with_card_alone : Rack
    with_card_alone = with_seat r i (record { card = c; used = (own_seat r i).used }) alone_sound (used_found r i (own_seat r i) own)

    -- refused or not
    pub alone_answered : {S : Type 0} (entries : List Entry) (machines : ℕ → S) (lanes : Lanes) → (reply, view with_card_alone entries machines lanes) ≡ ask ((not (is_card (card_count r.size) i), NoSuchCard) ∷ checks ((view r entries machines lanes).cards i)) (answer ((view r entries machines lanes).cards i)) (with_card i (after ((view r entries machines lanes).cards i)) (view r entries machines lanes)) (view r entries machines lanes)
    alone_answered entries machines lanes = carried checks answer after r with_card_alone i (own_seat r i) c entries machines lanes reply own (with_seat_written r i (record { card = c; used = (own_seat r i).used }) alone_sound (used_found r i (own_seat r i) own)) e
