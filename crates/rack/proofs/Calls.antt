-- From one card and its log to the whole rack.
use Rattle.std.proofs.Common.{◌≡◌, ℕ, ◌-◌, ◌*◌, ◌≤◌, Bool, true, false, cond, List, map, length, take, drop, set, Err, refl, ap, ◌∙◌, arith}
use Rattle.std.proofs.lemmas.Bool.{eq-eqb}
use Rattle.std.proofs.lemmas.List.{length-map}
use Rattle.refusals.specs.declared.Refusal.TheVariants.{WrongSize}
use Rattle.backplane.specs.Lanes.{is_card}
use Rattle.frames.specs.declared.entry.Entry.{Entry}
use Rattle.protocol.specs.Rack.{State, Reply, at}
use Rattle.cards.specs.Sizes.{card_count}
use Rattle.rack.specs.View.{by_card, part_of, machines_of, entries_fit, lent}
use Rattle.rack.specs.declared.state.Rack.{Rack}
use Rattle.rack.proofs.Views.{map_set, by_card_set}

-- memory that fits leaves a call to its definition
pub lent_fits : {S : Type 0} (missing fits : Bool) (out : Reply × State S) (s : State S) → fits ≡ true → lent missing fits out s ≡ out
lent_fits true fits out s e = refl
lent_fits false fits out s e = ap (λ b. cond b out (Err WrongSize, s)) e

pub entries_fit_lem : (r : Rack) (entries : List Entry) → length entries ≡ card_count r.size * r.places → entries_fit r entries ≡ true
entries_fit_lem r entries long = eq-eqb (length entries) (card_count r.size * r.places) long

-- the places from low on are the card's part
pub slice_is : (r : Rack) (i low : ℕ) (entries : List Entry) → low ≡ (i - 1) * r.places → take r.places (drop low entries) ≡ part_of r.places i entries
slice_is r i low entries from = λ k. take r.places (drop (from k) entries)

-- the machines after one of them moved
pub machines_set : {M S : Type 0} (n i : ℕ) (state : M → S) (initial : S) (ms : List M) (m : M) → is_card n i ≡ true → n ≤ length ms → machines_of n state initial (set ms (i - 1) m) ≡ at i (state m) (machines_of n state initial ms)
machines_set n i state initial ms m is long =
    ap (by_card n initial) (map_set state ms (i - 1) m)
    ∙ by_card_set initial n i (map state ms) (state m) is (omega (arith, long, length-map ms state))
