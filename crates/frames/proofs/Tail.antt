-- What the loop over a slot's bytes keeps: whether those from a place on, up to the byte it has come to, are zeros.
use Rattle.std.proofs.Common.{◌≡◌, ℕ, ◌+◌, ◌-◌, ◌<◌, ◌≤◌, Bool, true, false, ◌&&◌, ◌||◌, eqb, ltb, List, length, get_or, take, drop, sym, refl, ap, ◌∙◌, arith, length-drop}
use Rattle.std.specs.List.{list_all, range_with_len}
use Rattle.std.proofs.lemmas.Bool.{ltb-true, ltb-false}
use Rattle.std.proofs.lemmas.List.{take_rest, get_or-drop}
use Rattle.std.proofs.lemmas.List.Folds.{list_all_more}
use Rattle.std.proofs.lemmas.List.FromFn.{get_or-range_with_len}

abbrev zero_byte : ℕ → Bool
zero_byte b = eqb b 0

abbrev pub zeros_up_to : ℕ → ℕ → List ℕ → Bool
zeros_up_to i at slot = list_all zero_byte (take (i - at) (drop at slot))

pub none_asked : (at : ℕ) (slot : List ℕ) → true ≡ zeros_up_to 0 at slot
none_asked at slot =
    let none : 0 - at ≡ 0 = omega arith in
    sym (ap (λ k. list_all zero_byte (take k (drop at slot))) none)

pub one_more : (at i : ℕ) (zeros : Bool) (slot : List ℕ) → length slot ≡ 48 → i < 48 → zeros ≡ zeros_up_to i at slot → (zeros && (ltb (get_or (range_with_len 0 48) i 0) at || eqb (get_or slot i 0) 0)) ≡ zeros_up_to (i + 1) at slot
one_more at i zeros slot long within e = ap (λ k. zeros && (ltb k at || eqb (get_or slot i 0) 0)) (get_or-range_with_len 0 48 i 0 within ∙ begins) ∙ go (ltb i at) refl
  where
    bs : List ℕ
    bs = drop at slot

    begins : 0 + i ≡ i
    begins = omega arith

    before : (b : Bool) → b ≡ true → (b && true) ≡ b
    before true h = refl
    before false h = refl

    go : (t : Bool) → ltb i at ≡ t → (zeros && (ltb i at || eqb (get_or slot i 0) 0)) ≡ zeros_up_to (i + 1) at slot
    go true h =
        let early : i < at = ltb-true i at h in
        let none : i - at ≡ 0 = omega arith in
        let none_yet : i + 1 - at ≡ 0 = omega arith in
        let so_far : zeros ≡ true = e ∙ ap (λ k. list_all zero_byte (take k bs)) none in
        ap (λ t. zeros && (t || eqb (get_or slot i 0) 0)) h ∙ before zeros so_far ∙ so_far ∙ sym (ap (λ k. list_all zero_byte (take k bs)) none_yet)
    go false h =
        let late : at ≤ i = ltb-false i at h in
        let further : i + 1 - at ≡ (i - at) + 1 = omega arith in
        let here : at + (i - at) ≡ i = omega arith in
        let byte : get_or bs (i - at) 0 ≡ get_or slot i 0 = get_or-drop at slot (i - at) 0 ∙ ap (λ k. get_or slot k 0) here in
        ap (λ t. zeros && (t || eqb (get_or slot i 0) 0)) h
        ∙ (λ j. e j && eqb (sym byte j) 0)
        ∙ sym (list_all_more zero_byte bs (i - at) 0 (simp length-drop (omega (arith, long))))
        ∙ sym (ap (λ k. list_all zero_byte (take k bs)) further)

pub all_of_them : (at i : ℕ) (zeros : Bool) (slot : List ℕ) → length slot ≡ 48 → i ≡ 48 → zeros ≡ zeros_up_to i at slot → zeros ≡ list_all zero_byte (drop at slot)
all_of_them at i zeros slot long end e =
    let size : i - at ≡ length slot - at = omega (arith, long) in
    e ∙ ap (λ k. list_all zero_byte (take k (drop at slot))) size ∙ ap (list_all zero_byte) (take_rest slot at)
