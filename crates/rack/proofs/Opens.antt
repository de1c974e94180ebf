-- A new rack's state is the opened one, and the laws hold of what follows.
use Rattle.std.proofs.Common.{◌≡◌, ℕ, zero, suc, ◌-◌, Bool, true, false, cond, ◌||◌, eqb, ◌⊎◌, List, [], ◌∷◌, map, get_or, Ok, Err, Result, sym, refl, ap, ◌∙◌, inl, inr, arith}
use mathlib.Core.Path.{fun_ext}
use Rattle.std.specs.List.{AllByRecursion}
use Rattle.std.proofs.lemmas.Bool.{eqb-true}
use Rattle.refusals.specs.declared.Refusal.{Refusal}
use Rattle.refusals.specs.declared.Refusal.TheVariants.{WrongSize}
use Rattle.backplane.specs.Lanes.{Lanes, is_card, empty_lanes}
use Rattle.frames.specs.declared.entry.Entry.{Entry}
use Rattle.frames.specs.Fields.{Words, EntryFields}
use Rattle.machines.specs.Lone.{carried}
use Rattle.protocol.specs.Rack.{Sizes, opened_card, opened}
use Rattle.protocol.specs.Committing.{applied}
use Rattle.protocol.specs.declared.card.Card.{Card}
use Rattle.laws.specs.Runs.{delivered_at}
use Rattle.laws.proofs.Main.{agreement, integrity, no_lost_delivery, elections, counts, card_rules}
use Rattle.logs.specs.Log.{log_of}
use Rattle.cards.specs.LaneViews.{lane_fields}
use Rattle.cards.specs.Sizes.{card_count, size_of}
use Rattle.cards.specs.declared.size.RackSize.{RackSize}
use Rattle.cards.specs.declared.size.RackSize.TheVariants.{Three, Five, Seven}
use Rattle.rack.specs.Opening.{Promises, StandsAlone, item_of}
use Rattle.rack.specs.View.{by_card, part_of, card_log, logs_of, machines_of}

-- the number that made a size
pub size_of_lem : (n : ℕ) (size : RackSize) → Ok size ≡ size_of n → (card_count size ≡ n) × ((eqb n 3 || (eqb n 5 || eqb n 7)) ≡ true)
size_of_lem n size e = go (eqb n 3) refl (eqb n 5) refl (eqb n 7) refl e
  where
    ok_same : (x y : RackSize) → ◌≡◌ {A = Result RackSize Refusal} (Ok x) (Ok y) → x ≡ y
    ok_same x y p = cc

    go : (a : Bool) → eqb n 3 ≡ a → (b : Bool) → eqb n 5 ≡ b → (c : Bool) → eqb n 7 ≡ c → ◌≡◌ {A = Result RackSize Refusal} (Ok size) (cond a (Ok Three) (cond b (Ok Five) (cond c (Ok Seven) (Err WrongSize)))) → (card_count size ≡ n) × ((a || (b || c)) ≡ true)
    go true p b q c s h = (ap card_count (ok_same size Three h) ∙ sym (eqb-true n 3 p), refl)
    go false p true q c s h = (ap card_count (ok_same size Five h) ∙ sym (eqb-true n 5 q), refl)
    go false p false q true s h = (ap card_count (ok_same size Seven h) ∙ sym (eqb-true n 7 s), refl)
    go false p false q false s h = let z : ◌≡◌ {A = ℕ} 0 1 = cc in absurd (omega arith)

is_rack : (size : RackSize) → (card_count size ≡ 3) ⊎ ((card_count size ≡ 5) ⊎ (card_count size ≡ 7))
is_rack Three = inl refl
is_rack Five = inr (inl refl)
is_rack Seven = inr (inr refl)

same_at : {A : Type 0} (d : A) (xs : List A) → AllByRecursion (λ x. x ≡ d) xs → (k : ℕ) → get_or xs k d ≡ d
same_at d [] all k = refl
same_at d (x ∷ xs) all zero = all.0
same_at d (x ∷ xs) all (suc k) = same_at d xs all.1 k

same_map : {M S : Type 0} (state : M → S) (initial : S) (ms : List M) → AllByRecursion (λ m. state m ≡ initial) ms → AllByRecursion (λ x. x ≡ initial) (map state ms)
same_map state initial [] all = tt
same_map state initial (m ∷ ms) all = (all.0, same_map state initial ms all.1)

by_card_same : {A : Type 0} (n : ℕ) (none : A) (xs : List A) → AllByRecursion (λ x. x ≡ none) xs → by_card n none xs ≡ (λ _. none)
by_card_same n none xs all = fun_ext λ i. go (is_card n i) (same_at none xs all (i - 1))
  where
    go : {x : _} (b : Bool) → x ≡ none → cond b x none ≡ none
    go true e = e
    go false e = refl

pub view_opened : {M S : Type 0} (size : RackSize) (places tally n : ℕ) (cards : List Card) (used : List ℕ) (entries : List Entry) (ms : List M) (state : M → S) (initial : S) (lanes : Lanes) → AllByRecursion (λ c. c ≡ opened_card) cards → AllByRecursion (λ u. u ≡ 0) used → tally ≡ 0 → AllByRecursion (λ m. state m ≡ initial) ms → lanes ≡ empty_lanes → record { cards = by_card (card_count size) opened_card cards; logs = logs_of (card_count size) places used entries; tally = tally; machines = machines_of n state initial ms; lanes = lane_fields lanes } ≡ opened initial
view_opened size places tally n cards used entries ms state initial lanes new unused none started quiet = λ k. record {
  cards = by_card_same (card_count size) opened_card cards new k;
  logs = logs k;
  tally = none k;
  machines = by_card_same n initial (map state ms) (same_map state initial ms started) k;
  lanes = lane_fields (quiet k);
}
  where
    empty : (i : ℕ) (b : Bool) → cond b (card_log places used entries i) [] ≡ []
    empty i true = ap (log_of (part_of places i entries)) (same_at 0 used unused (i - 1))
    empty i false = refl

    logs : logs_of (card_count size) places used entries ≡ (λ _. [])
    logs = fun_ext λ i. empty i (is_card (card_count size) i)

abbrev sized : RackSize → ℕ → ℕ → Sizes
sized size places room = record { cards = card_count size; places = places; capacity = room }

pub promises : {S : Type 0} (start : S) (apply : ℕ → Words → S → S) (size : RackSize) (places room : ℕ) → Promises start apply (sized size places room)
promises start apply size places room = record {
  agreement = agreement start apply (sized size places room) (is_rack size);
  integrity = integrity start apply (sized size places room) (is_rack size);
  no_lost_delivery = no_lost_delivery start apply (sized size places room) (is_rack size);
  elections = elections start apply (sized size places room) (is_rack size);
  counts = counts start apply (sized size places room) (is_rack size);
  card_rules = card_rules start apply (sized size places room) (is_rack size);
}

-- entries handed on one by one, to a rack's machine and to the lone machine
pub applied_alone : {S P : Type 0} (apply : ℕ → P → S → S) (unpacked : Words → P) (s : S) (es : List EntryFields) → applied (λ q w. apply q (unpacked w)) es s ≡ carried apply unpacked s (map item_of es)
applied_alone apply unpacked s [] = refl
applied_alone apply unpacked s (e ∷ es) = applied_alone apply unpacked (apply e.queue (unpacked e.payload) s) es

pub stands_alone : {S P : Type 0} (start : S) (apply : ℕ → P → S → S) (unpacked : Words → P) (size : RackSize) (places room : ℕ) → StandsAlone start apply unpacked (sized size places room)
stands_alone start apply unpacked size places room calls k i =
    (integrity start (λ q w. apply q (unpacked w)) (sized size places room) (is_rack size)).machine calls k i
    ∙ applied_alone apply unpacked start (delivered_at start (λ q w. apply q (unpacked w)) (sized size places room) calls k i)
