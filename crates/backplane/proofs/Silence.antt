-- Empty lanes, one by one and all together.
use Rattle.std.proofs.Common.{◌≡◌, ℕ, ◌+◌, ◌-◌, ◌<◌, Bool, true, false, List, [], ◌∷◌, length, get_or, MatchBool, sym, refl, ap, ◌∙◌, arith}
use Rattle.std.specs.List.{list_all, range_with_len}
use Rattle.std.proofs.lemmas.List.FromFn.{length-range_with_len, get_or-range_with_len}
use Rattle.std.proofs.lemmas.List.Folds.{list_all_at}
use Rattle.std.proofs.lemmas.Bool.{true≢false}
use Rattle.std.proofs.lemmas.Bool.Decides.{nat_tests}
use Rattle.backplane.specs.Lanes.{LanesOf, is_lane, empty_lanes}
use Rattle.backplane.specs.Quiet.{pair_quiet, card_quiet, all_quiet}
use Rattle.backplane.proofs.LaneLaws.{lane_ext}

all_at : (test : ℕ → Bool) (n k : ℕ) → list_all test (range_with_len 0 n) ≡ true → k < n → test k ≡ true
all_at test n k all inside = each (test k) refl
  where
    each : (b : Bool) → test k ≡ b → test k ≡ true
    each true e = e
    each false e =
        let at : get_or (range_with_len 0 n) k 0 ≡ k = omega (arith, get_or-range_with_len 0 n k 0 inside) in
        absurd (true≢false (sym all ∙ list_all_at test (range_with_len 0 n) k 0 (omega (arith, length-range_with_len 0 n)) (ap test at ∙ e)))

all_true : {X : Type 0} (test : X → Bool) (xs : List X) → ((x : X) → test x ≡ true) → list_all test xs ≡ true
all_true test [] each = refl
all_true test (x ∷ xs) each = rw (each x) (all_true test xs each)

module _ {A : Type 0} (n : ℕ) (L : LanesOf A) (nowhere : (f t l : ℕ) → is_lane n f t l ≡ false → L f t l ≡ []) where
  none : (xs : List A) → length xs ≡ 0 → xs ≡ []
  none [] e = refl
  none (x ∷ xs) e = absurd (omega (arith, e))

  all_empty : all_quiet L n ≡ true → (f t l : ℕ) (b : Bool) → is_lane n f t l ≡ b → length (L f t l) ≡ 0
  all_empty quiet f t l false is = ap length (nowhere f t l is)
  all_empty quiet f t l true is =
      let from : f - 1 < n = grind (arith, nat_tests) in
      let to : t - 1 < n = grind (arith, nat_tests) in
      let f-is : f - 1 + 1 ≡ f = grind (arith, nat_tests) in
      let t-is : t - 1 + 1 ≡ t = grind (arith, nat_tests) in
      let card : card_quiet L n f ≡ true = ap (card_quiet L n) (sym f-is) ∙ all_at (λ k. card_quiet L n (k + 1)) n (f - 1) quiet from in
      let pair : pair_quiet L f t ≡ true = ap (pair_quiet L f) (sym t-is) ∙ all_at (λ k. pair_quiet L f (k + 1)) n (t - 1) card to in
      grind (arith, nat_tests)

  empty_quiet : all_quiet (empty_lanes {A = A}) n ≡ true
  empty_quiet = all_true (λ k. card_quiet (empty_lanes {A = A}) n (k + 1)) (range_with_len 0 n) (λ f. all_true (λ k. pair_quiet (empty_lanes {A = A}) (f + 1) (k + 1)) (range_with_len 0 n) (λ t. refl))

  pub quiet_means : (r : Bool) → r ≡ all_quiet L n → MatchBool r (L ≡ empty_lanes) (L ≡ empty_lanes → ⊥)
  quiet_means true e = lane_ext L empty_lanes (λ f t l. none (L f t l) (all_empty (sym e) f t l (is_lane n f t l) refl))
  quiet_means false e = λ same. true≢false (sym (e ∙ ap (λ M. all_quiet M n) same ∙ empty_quiet))
