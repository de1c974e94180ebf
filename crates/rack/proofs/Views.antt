-- What a rack means after one of its cards was written back.
use Rattle.std.proofs.Common.{◌≡◌, ℕ, zero, suc, ◌-◌, ◌≤◌, Bool, true, false, cond, not, eqb, leb, ◌≢◌, List, [], ◌∷◌, map, length, get_or, set, Ok, Err, Result, sym, refl, ap, ◌∙◌, subst, arith}
use mathlib.Core.Path.{fun_ext}
use Rattle.std.proofs.lemmas.List.{get_or-set_same, get_or-set_other, get_or_default, set-get_or, length-map}
use Rattle.std.proofs.lemmas.Bool.{cond-true, eqb-true, eqb-false, and_parts, and_from, leb-true, le-leb}
use Rattle.refusals.specs.declared.Refusal.{Refusal}
use Rattle.refusals.specs.declared.Refusal.TheVariants.{NoSuchCard}
use Rattle.backplane.specs.Lanes.{Lanes, is_card}
use Rattle.frames.specs.declared.entry.Entry.{Entry}
use Rattle.logs.specs.Log.{log_of}
use Rattle.protocol.specs.Rack.{State, Reply, at, with_card, with_log, with_tally, ask, opened_card}
use Rattle.protocol.specs.declared.answer.Answer.{Answer}
use Rattle.protocol.proofs.Asked.{ask_through}
use Rattle.protocol.specs.declared.card.Card.{Card}
use Rattle.cards.specs.Sizes.{card_count}
use Rattle.cards.specs.declared.size.RackSize.{RackSize}
use Rattle.cards.specs.declared.size.RackSize.TheVariants.{Three, Five, Seven}
use Rattle.cards.specs.LaneViews.{lane_fields}
use Rattle.rack.specs.Sound.{sound_card}
use Rattle.rack.specs.Seats.{opened_seat, cards_in, used_in}
use Rattle.rack.specs.View.{by_card, part_of, logs_of, view, sizes}
use Rattle.rack.specs.declared.seat.Seat.{Seat}
use Rattle.rack.proofs.Parts.{Replaced, replaced_none, logs_set}
use Rattle.rack.specs.declared.state.Rack.{Rack}
use Rattle.rack.proofs.Written.{Written}
use Rattle.rack.specs.declared.fault.RackFault.{RackFault}
use Rattle.rack.specs.declared.fault.RackFault.TheVariants as fault

-- a place that is set to what it holds
pub at_same : {A : Type 0} (i : ℕ) (f : ℕ → A) → at i (f i) f ≡ f
at_same i f = fun_ext λ j. one j (eqb j i) refl
  where
    one : (j : ℕ) (b : Bool) → eqb j i ≡ b → cond (eqb j i) (f i) (f j) ≡ f j
    one j true e = ap (λ t. cond t (f i) (f j)) e ∙ ap f (sym (eqb-true j i e))
    one j false e = ap (λ t. cond t (f i) (f j)) e

pub card_same : {S : Type 0} (i : ℕ) (s : State S) → with_card i (s.cards i) s ≡ s
card_same i s = λ k. record { cards = at_same i s.cards k; logs = s.logs; tally = s.tally; machines = s.machines; lanes = s.lanes }

-- a list with the place of one card written
module _ {A : Type 0} (none : A) where
  pub by_card_set : (n i : ℕ) (xs : List A) (x : A) → is_card n i ≡ true → n ≤ length xs → by_card n none (set xs (i - 1) x) ≡ at i x (by_card n none xs)
  by_card_set n i xs x is long = fun_ext λ j. one j (eqb j i) refl (is_card n j) refl
    where
      low : 1 ≤ i
      low = leb-true 1 i (and_parts (leb 1 i) (leb i n) is).0

      high : i ≤ n
      high = leb-true i n (and_parts (leb 1 i) (leb i n) is).1

      one : (j : ℕ) (b : Bool) → eqb j i ≡ b → (t : Bool) → is_card n j ≡ t → cond (is_card n j) (get_or (set xs (i - 1) x) (j - 1) none) none ≡ cond (eqb j i) x (cond (is_card n j) (get_or xs (j - 1) none) none)
      one j true e t h =
          let same : j ≡ i = eqb-true j i e in
          ap (λ k. cond (is_card n k) (get_or (set xs (i - 1) x) (k - 1) none) none) same
          ∙ ap (λ b. cond b (get_or (set xs (i - 1) x) (i - 1) none) none) is
          ∙ get_or-set_same xs (i - 1) x none (omega (arith, low, high, long))
          ∙ sym (ap (λ b. cond b x (cond (is_card n j) (get_or xs (j - 1) none) none)) e)
      one j false e true h =
          let apart : j - 1 ≢ i - 1 = omega (arith, eqb-false j i e, low, leb-true 1 j (and_parts (leb 1 j) (leb j n) h).0) in
          ap (λ b. cond b (get_or (set xs (i - 1) x) (j - 1) none) none) h
          ∙ get_or-set_other xs (i - 1) (j - 1) x none apart
          ∙ sym (ap (λ b. cond b x (cond (is_card n j) (get_or xs (j - 1) none) none)) e ∙ ap (λ b. cond b (get_or xs (j - 1) none) none) h)
      one j false e false h =
          ap (λ b. cond b (get_or (set xs (i - 1) x) (j - 1) none) none) h
          ∙ sym (ap (λ b. cond b x (cond (is_card n j) (get_or xs (j - 1) none) none)) e ∙ ap (λ b. cond b (get_or xs (j - 1) none) none) h)

pub few : (z : RackSize) → card_count z ≤ 7
few Three = omega arith
few Five = omega arith
few Seven = omega arith

-- a list written, and read through one field of what it holds
pub map_set : {A B : Type 0} (f : A → B) (xs : List A) (i : ℕ) (x : A) → map f (set xs i x) ≡ set (map f xs) i (f x)
map_set f [] i x = refl
map_set f (y ∷ xs) zero x = refl
map_set f (y ∷ xs) (suc i) x = ap (λ ys. f y ∷ ys) (map_set f xs i x)

get_or-field : {A B : Type 0} (f : A → B) (xs : List A) (k : ℕ) (d : A) → f (get_or xs k d) ≡ get_or (map f xs) k (f d)
get_or-field f [] k d = refl
get_or-field f (x ∷ xs) zero d = refl
get_or-field f (x ∷ xs) (suc k) d = get_or-field f xs k d

module _ {S : Type 0} (r : Rack) (i : ℕ) (entries : List Entry) (ms : ℕ → S) (lanes : Lanes) (is : is_card (card_count r.size) i ≡ true) where
  pub own_card : (view r entries ms lanes).cards i ≡ get_or (cards_in r.seats) (i - 1) opened_card
  own_card = cond-true _ _ _ is

  pub own_log : (view r entries ms lanes).logs i ≡ log_of (part_of r.places i entries) (get_or (used_in r.seats) (i - 1) 0)
  own_log = cond-true _ _ _ is

-- what a card, its log and the tally were, put back
pub put_back : {S : Type 0} (i : ℕ) (s : State S) → with_card i (s.cards i) (with_log i (s.logs i) (with_tally s.tally s)) ≡ s
put_back i s = λ k. record { cards = at_same i s.cards k; logs = at_same i s.logs k; tally = s.tally; machines = s.machines; lanes = s.lanes }

-- a seat, its part of the entries and the tally written
module _ {S : Type 0} (r r' : Rack) (i : ℕ) (seat : Seat) (t : ℕ) (entries : List Entry) (ms : ℕ → S) (lanes : Lanes) (is : is_card (card_count r.size) i ≡ true) (w : Written r r' i seat t) where
  abbrev n : ℕ
  n = card_count r.size

  seven : n ≤ length r.seats
  seven = omega (arith, few r.size, r.seven)

  pub view_changed : (entries' part : List Entry) → Replaced n r.places i entries entries' part → view r' entries' ms lanes ≡ with_card i seat.card (with_log i (log_of part seat.used) (with_tally t (view r entries ms lanes)))
  view_changed entries' part p = λ k. record {
    cards = (cards ∙ by_card_set opened_card n i (cards_in r.seats) seat.card is (omega (arith, seven, length-map r.seats (λ (s : Seat). s.card)))) k;
    logs = (logs ∙ logs_set n r.places i seat.used (used_in r.seats) entries entries' part is (omega (arith, seven, length-map r.seats (λ (s : Seat). s.used))) p) k;
    tally = w.tally k;
    machines = ms;
    lanes = lane_fields lanes;
  }
    where
      cards : by_card (card_count r'.size) opened_card (cards_in r'.seats) ≡ by_card n opened_card (set (cards_in r.seats) (i - 1) seat.card)
      cards = λ k. by_card (card_count (w.size k)) opened_card ((ap cards_in w.seats ∙ map_set (λ (s : Seat). s.card) r.seats (i - 1) seat) k)

      logs : logs_of (card_count r'.size) r'.places (used_in r'.seats) entries' ≡ logs_of n r.places (set (used_in r.seats) (i - 1) seat.used) entries'
      logs = λ k. logs_of (card_count (w.size k)) (w.places k) ((ap used_in w.seats ∙ map_set (λ (s : Seat). s.used) r.seats (i - 1) seat) k) entries'

  -- the card alone
  pub view_written : seat.used ≡ get_or (used_in r.seats) (i - 1) 0 → t ≡ r.tally → view r' entries ms lanes ≡ with_card i seat.card (view r entries ms lanes)
  view_written kept same =
      view_changed entries (part_of r.places i entries) (replaced_none n r.places i entries)
      ∙ (λ k. with_card i seat.card (with_log i ((ap (log_of (part_of r.places i entries)) kept ∙ sym (own_log r i entries ms lanes is)) k) (with_tally (same k) (view r entries ms lanes))))
      ∙ ap (with_card i seat.card) back
    where
      back : with_log i ((view r entries ms lanes).logs i) (with_tally r.tally (view r entries ms lanes)) ≡ view r entries ms lanes
      back = λ k. record { cards = (view r entries ms lanes).cards; logs = at_same i (view r entries ms lanes).logs k; tally = r.tally; machines = ms; lanes = lane_fields lanes }

-- a write leaves how many cards and places there are
pub written_sizes : (r r' : Rack) (i : ℕ) (seat : Seat) (t : ℕ) → Written r r' i seat t → sizes r' 0 ≡ sizes r 0
written_sizes r r' i seat t w = λ k. record { cards = card_count (w.size k); places = w.places k; capacity = 0 }

-- the same where the card was changed in its place
pub view_set : {S : Type 0} (r : Rack) (i : ℕ) (c : Card) (u : ℕ) (entries : List Entry) (machines : ℕ → S) (lanes : Lanes) → is_card (card_count r.size) i ≡ true → u ≡ get_or (used_in r.seats) (i - 1) 0 → record { cards = by_card (card_count r.size) opened_card (cards_in (set r.seats (i - 1) (record { card = c; used = u }))); logs = logs_of (card_count r.size) r.places (used_in (set r.seats (i - 1) (record { card = c; used = u }))) entries; tally = r.tally; machines = machines; lanes = lane_fields lanes } ≡ with_card i c (view r entries machines lanes)
view_set r i c u entries machines lanes is kept = λ k. record {
  cards = (ap (by_card (card_count r.size) opened_card) (map_set (λ (s : Seat). s.card) r.seats (i - 1) (record { card = c; used = u })) ∙ by_card_set opened_card (card_count r.size) i (cards_in r.seats) c is (omega (arith, few r.size, r.seven, length-map r.seats (λ (s : Seat). s.card)))) k;
  logs = logs_of (card_count r.size) r.places ((map_set (λ (s : Seat). s.used) r.seats (i - 1) (record { card = c; used = u }) ∙ ap (set (used_in r.seats) (i - 1)) kept ∙ set-get_or (used_in r.seats) (i - 1) 0) k) entries;
  tally = r.tally;
  machines = machines;
  lanes = lane_fields lanes;
}

-- a seat that was found
pub record Found (r : Rack) (i : ℕ) (seat : Seat) : Type 0 where
  pub is : is_card (card_count r.size) i ≡ true
  pub card : seat.card ≡ get_or (cards_in r.seats) (i - 1) opened_card
  pub used : seat.used ≡ get_or (used_in r.seats) (i - 1) 0

pub seat_found : (r : Rack) (i : ℕ) (seat : Seat) → is_card (card_count r.size) i ≡ true → seat ≡ get_or r.seats (i - 1) opened_seat → Found r i seat
seat_found r i seat is e = record {
  is = is;
  card = ap (λ (s : Seat). s.card) e ∙ get_or-field (λ (s : Seat). s.card) r.seats (i - 1) opened_seat;
  used = ap (λ (s : Seat). s.used) e ∙ get_or-field (λ (s : Seat). s.used) r.seats (i - 1) opened_seat;
}

-- a call whose checks past the card's number, and whose changes, are its card's alone
module _ (checks : Card → List (Bool × Refusal)) (answer : Card → Answer) (after : Card → Card) where
  pub carried : {S : Type 0} (r r' : Rack) (i : ℕ) (seat : Seat) (c : Card) (entries : List Entry) (machines : ℕ → S) (lanes : Lanes) (reply : Reply) → Found r i seat → Written r r' i (record { card = c; used = seat.used }) r.tally → (reply, c) ≡ ask (checks seat.card) (answer seat.card) (after seat.card) seat.card → (reply, view r' entries machines lanes) ≡ ask ((not (is_card (card_count r.size) i), NoSuchCard) ∷ checks ((view r entries machines lanes).cards i)) (answer ((view r entries machines lanes).cards i)) (with_card i (after ((view r entries machines lanes).cards i)) (view r entries machines lanes)) (view r entries machines lanes)
  carried {S} r r' i seat c entries machines lanes reply f w e =
      (λ k. ((e k).0, (view_written r r' i (record { card = c; used = seat.used }) r.tally entries machines lanes f.is w f.used refl ∙ ap (λ d. with_card i d s) (λ k. (e k).1)) k))
      ∙ sym (ask_through (λ d. with_card i d s) (checks own) (answer own) (after own) own)
      ∙ (λ k. ask (checks (own_is k)) (answer (own_is k)) (with_card i (after (own_is k)) s) ((ap (λ d. with_card i d s) own_is ∙ card_same i s) k))
      ∙ sym (ap (λ b. cond (not b) (Err NoSuchCard, s) (ask (checks (s.cards i)) (answer (s.cards i)) (with_card i (after (s.cards i)) s) s)) f.is)
    where
      s : State S
      s = view r entries machines lanes

      own : Card
      own = seat.card

      own_is : own ≡ s.cards i
      own_is = f.card ∙ sym (own_card r i entries machines lanes f.is)

-- a card number from 1 to n names a card
pub named : (n i : ℕ) → 1 ≤ i → i ≤ n → is_card n i ≡ true
named n i low high = and_from (leb 1 i) (leb i n) (le-leb 1 i low) (le-leb i n high)

pub sound_found : (r : Rack) (i : ℕ) (seat : Seat) → Found r i seat → sound_card seat.card ≡ true
sound_found r i seat f = ap sound_card f.card ∙ r.sound (i - 1)

pub used_found : (r : Rack) (i : ℕ) (seat : Seat) → Found r i seat → seat.used ≤ r.places
used_found r i seat f = subst (λ n. n ≤ r.places) (sym f.used) (r.fit (i - 1))

pub read_fits : (r : Rack) (k : ℕ) (d : Seat) → d.used ≡ 0 → (get_or r.seats k d).used ≤ r.places
read_fits r k d none = subst (λ n. n ≤ r.places) (sym (get_or-field (λ (s : Seat). s.used) r.seats k d ∙ ap (get_or (used_in r.seats) k) none)) (r.fit k)

pub seat_read : (r : Rack) (i : ℕ) (d : Seat) → is_card (card_count r.size) i ≡ true → get_or r.seats (i - 1) d ≡ get_or r.seats (i - 1) opened_seat
seat_read r i d is =
    let low : 1 ≤ i = leb-true 1 i (and_parts (leb 1 i) (leb i (card_count r.size)) is).0 in
    let high : i ≤ card_count r.size = leb-true i (card_count r.size) (and_parts (leb 1 i) (leb i (card_count r.size)) is).1 in
    get_or_default r.seats (i - 1) d opened_seat (omega (arith, few r.size, r.seven))

pub found : (r : Rack) (i : ℕ) (seat : Seat) → ◌≡◌ {A = Result Seat RackFault} (Ok seat) (cond (is_card (card_count r.size) i) (Ok (get_or r.seats (i - 1) opened_seat)) (Err fault.NoSuchCard)) → Found r i seat
found r i seat e = go (is_card (card_count r.size) i) refl
  where
    ok_same : (x y : Seat) → ◌≡◌ {A = Result Seat RackFault} (Ok x) (Ok y) → x ≡ y
    ok_same x y p = cc

    ok_err : (x : Seat) → ◌≡◌ {A = Result Seat RackFault} (Ok x) (Err fault.NoSuchCard) → ⊥
    ok_err x p = let z : ◌≡◌ {A = ℕ} 0 1 = cc in omega arith

    go : (b : Bool) → is_card (card_count r.size) i ≡ b → Found r i seat
    go true h = seat_found r i seat h (ok_same seat _ (e ∙ ap (λ b. cond b (Ok (get_or r.seats (i - 1) opened_seat)) (Err fault.NoSuchCard)) h))
    go false h = absurd (ok_err seat (e ∙ ap (λ b. cond b (Ok (get_or r.seats (i - 1) opened_seat)) (Err fault.NoSuchCard)) h))
