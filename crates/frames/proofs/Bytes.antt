-- Numbers and their bytes, low byte first.
use Rattle.std.proofs.Common.{◌≡◌, ℕ, zero, suc, ◌+◌, ◌-◌, ◌*◌, ◌/◌, ◌%◌, ◌^◌, ◌<◌, ◌≤◌, List, [], ◌∷◌, ◌++◌, length, get_or, take, drop, replicate, sym, refl, ap, ◌∙◌, arith, length-append, length-drop}
use lib.ListN.{length-replicate}
use native.Mathlib.Nat.{pow-zero, pow-succ', div-div-eq-div-mul}
use lib.Lanes.{digits_l, number_l, Each1}
use borrow.Rule.Slice.PartMut.{put_mid}
use Rattle.std.proofs.lemmas.List.{drop-drop, drop_more, drop_all, take_rest, append-nil, take_all, drop-replicate}

pub length_digits : (w v : ℕ) → length (digits_l 256 w v) ≡ w
length_digits zero v = refl
length_digits (suc w) v = ap suc (length_digits w (v / 256))

-- the bytes of 0
pub digits_zero : (k : ℕ) → digits_l 256 k 0 ≡ replicate k 0
digits_zero zero = refl
digits_zero (suc k) = ap (λ l. 0 ∷ l) (digits_zero k)

-- bytes past a number's width are 0
pub digits_wide : (w k v : ℕ) → v < 256 ^ w → digits_l 256 (w + k) v ≡ digits_l 256 w v ++ replicate k 0
digits_wide zero k v h =
    let z : v ≡ 0 = omega (arith, pow-zero 256) in
    let n : 0 + k ≡ k = omega arith in
    rw (n, z) (digits_zero k)
digits_wide (suc w) k v h =
    let n : suc w + k ≡ suc (w + k) = omega arith in
    let small : v / 256 < 256 ^ w = omega (arith, pow-succ' 256 w) in
    rw n (ap (λ l. (v % 256) ∷ l) (digits_wide w k (v / 256) small))

pub number_digits : (w v : ℕ) → v < 256 ^ w → number_l 256 (digits_l 256 w v) ≡ v
number_digits zero v h = omega (arith, pow-zero 256)
number_digits (suc w) v h =
    let small : v / 256 < 256 ^ w = omega (arith, pow-succ' 256 w) in
    omega (arith, number_digits w (v / 256) small)

pub digits_number : (xs : List ℕ) → Each1 (λ x. x < 256) xs → digits_l 256 (length xs) (number_l 256 xs) ≡ xs
digits_number [] h = refl
digits_number (x ∷ xs) h =
    let low : (x + 256 * number_l 256 xs) % 256 ≡ x = omega (arith, h.0) in
    let high : (x + 256 * number_l 256 xs) / 256 ≡ number_l 256 xs = omega (arith, h.0) in
    λ i. low i ∷ (ap (digits_l 256 (length xs)) high ∙ digits_number xs h.1) i

pub number_lt : (xs : List ℕ) → Each1 (λ x. x < 256) xs → number_l 256 xs < 256 ^ length xs
number_lt [] h = omega (arith, pow-zero 256)
number_lt (x ∷ xs) h = omega (arith, h.0, number_lt xs h.1, pow-succ' 256 (length xs))

-- the bytes of a word as `to_le_bytes` gives them
pub eight_bytes : (v : ℕ) → (v % 256) ∷ (v / 256 % 256) ∷ (v / 65536 % 256) ∷ (v / 16777216 % 256) ∷ (v / 4294967296 % 256) ∷ (v / 1099511627776 % 256) ∷ (v / 281474976710656 % 256) ∷ (v / 72057594037927936 % 256) ∷ [] ≡ digits_l 256 8 v
eight_bytes v =
    let a : v / 65536 ≡ v / 256 / 256 = sym (div-div-eq-div-mul v 256 256) in
    let b : v / 16777216 ≡ v / 256 / 256 / 256 = sym (div-div-eq-div-mul v 65536 256) ∙ ap (λ x. x / 256) a in
    let c : v / 4294967296 ≡ v / 256 / 256 / 256 / 256 = sym (div-div-eq-div-mul v 16777216 256) ∙ ap (λ x. x / 256) b in
    let d : v / 1099511627776 ≡ v / 256 / 256 / 256 / 256 / 256 = sym (div-div-eq-div-mul v 4294967296 256) ∙ ap (λ x. x / 256) c in
    let e : v / 281474976710656 ≡ v / 256 / 256 / 256 / 256 / 256 / 256 = sym (div-div-eq-div-mul v 1099511627776 256) ∙ ap (λ x. x / 256) d in
    let f : v / 72057594037927936 ≡ v / 256 / 256 / 256 / 256 / 256 / 256 / 256 = sym (div-div-eq-div-mul v 281474976710656 256) ∙ ap (λ x. x / 256) e in
    λ i. (v % 256) ∷ (v / 256 % 256) ∷ (a i % 256) ∷ (b i % 256) ∷ (c i % 256) ∷ (d i % 256) ∷ (e i % 256) ∷ (f i % 256) ∷ []

-- bytes written over a list from a on
pub put_at : (a n k : ℕ) (xs ys zs : List ℕ) → ys ≡ zs → n ≡ k → put_mid a n xs ys ≡ take a xs ++ (zs ++ drop (a + k) xs)
put_at a n k xs ys zs same size = ap (λ l. take a xs ++ l) (λ i. same i ++ (ap (λ m. drop m (drop a xs)) size ∙ drop-drop k a xs) i)

-- eight bytes of a list, as `from_le_bytes` reads them
pub load_eight : (bs : List ℕ) (at : ℕ) → at + 8 ≤ length bs → number_l 256 (take 8 (drop at bs)) ≡ get_or bs at 0 + get_or bs (at + 1) 0 * 256 + get_or bs (at + 2) 0 * 65536 + get_or bs (at + 3) 0 * 16777216 + get_or bs (at + 4) 0 * 4294967296 + get_or bs (at + 5) 0 * 1099511627776 + get_or bs (at + 6) 0 * 281474976710656 + get_or bs (at + 7) 0 * 72057594037927936
load_eight bs at h = omega (arith, first, next 1 2 6 refl (omega arith), next 2 3 5 refl (omega arith), next 3 4 4 refl (omega arith), next 4 5 3 refl (omega arith), next 5 6 2 refl (omega arith), next 6 7 1 refl (omega arith), next 7 8 0 refl (omega arith))
  where
    first : number_l 256 (take 8 (drop at bs)) ≡ get_or bs at 0 + 256 * number_l 256 (take 7 (drop (at + 1) bs))
    first = ap (λ l. number_l 256 (take 8 l)) (drop_more bs at 0 (omega arith))

    next : (k j n : ℕ) → k + 1 ≡ j → k < 8 → number_l 256 (take (suc n) (drop (at + k) bs)) ≡ get_or bs (at + k) 0 + 256 * number_l 256 (take n (drop (at + j) bs))
    next k j n e small =
        let further : at + k + 1 ≡ at + j = omega arith in
        ap (λ l. number_l 256 (take (suc n) l)) (drop_more bs (at + k) 0 (omega arith)) ∙ ap (λ m. get_or bs (at + k) 0 + 256 * number_l 256 (take n (drop m bs))) further

-- zeros past a number's bytes
pub number_zeros : (xs : List ℕ) (k : ℕ) → number_l 256 (xs ++ replicate k 0) ≡ number_l 256 xs
number_zeros [] zero = refl
number_zeros [] (suc k) = omega (arith, number_zeros [] k)
number_zeros (x ∷ xs) k = ap (λ n. x + 256 * n) (number_zeros xs k)

-- at most eight bytes, written to the front of a word of eight
pub long_word : (bs wrote : List ℕ) → length bs ≤ 8 → wrote ≡ bs → 0 + 8 ≤ length (wrote ++ drop (length bs) (replicate 8 0))
long_word bs wrote small same =
    let long : length wrote ≡ length bs = ap length same in
    simp (length-append, length-drop) (omega (arith, long))

-- their number
pub load_word : (bs wrote : List ℕ) (r : ℕ) → length bs ≤ 8 → wrote ≡ bs → r ≡ number_l 256 (take 8 (drop 0 (wrote ++ drop (length bs) (replicate 8 0)))) → r ≡ number_l 256 bs
load_word bs wrote r small same e =
    let rest : drop (length bs) (replicate {A = ℕ} 8 0) ≡ replicate (8 - length bs) 0 = drop-replicate (length bs) 8 0 in
    let long : length (bs ++ replicate {A = ℕ} (8 - length bs) 0) ≤ 8 = simp (length-append, length-replicate) (omega arith) in
    e
    ∙ (λ i. number_l 256 (take 8 (same i ++ rest i)))
    ∙ ap (number_l 256) (take_all 8 (bs ++ replicate (8 - length bs) 0) long)
    ∙ number_zeros bs (8 - length bs)

-- what a list holds after its part from a start on was written
pub put_rest : (bytes last wrote : List ℕ) (start n : ℕ) → start + n ≤ length bytes → last ≡ wrote ++ drop n (take (length bytes - start) (drop start bytes)) → put_mid start (length bytes - start) bytes last ≡ take start bytes ++ (wrote ++ drop (start + n) bytes)
put_rest bytes last wrote start n within e =
    ap (λ l. take start bytes ++ l) (ap (λ l. last ++ l) none ∙ append-nil last ∙ e ∙ ap (λ l. wrote ++ l) (ap (drop n) (take_rest bytes start) ∙ drop-drop n start bytes))
  where
    none : drop (length bytes - start) (drop start bytes) ≡ []
    none = drop_all (length bytes - start) (drop start bytes) (simp length-drop (omega arith))
