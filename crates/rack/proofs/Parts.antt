-- A card's part of the entries: where it lies, and what a write to it leaves.
use Rattle.std.proofs.Common.{◌≡◌, ℕ, zero, suc, ◌+◌, ◌-◌, ◌*◌, ◌<◌, ◌≤◌, Bool, true, false, cond, eqb, leb, ◌≢◌, List, [], ◌∷◌, ◌++◌, length, get_or, take, drop, set, sym, refl, ap, ◌∙◌, subst, ⊎_elim, mul-le-mul_right, suc-mul, arith, length-drop, length-take}
use mathlib.Core.Path.{fun_ext}
use borrow.Rule.Slice.PartMut.{put_mid}
use Rattle.std.proofs.lemmas.List.{get_or-set_same, get_or-set_other, take-append-drop}
use Rattle.std.proofs.lemmas.Slice.{between_is, take-put_mid_below, drop-put_mid, between-put_mid}
use Rattle.std.proofs.lemmas.Bool.{eqb-true, eqb-false, and_parts, leb-true, cases_lt}
use Rattle.backplane.specs.Lanes.{is_card}
use Rattle.frames.specs.declared.entry.Entry.{Entry}
use Rattle.logs.specs.Log.{log_of}
use Rattle.protocol.specs.Rack.{at}
use Rattle.rack.specs.View.{part_of, card_log, logs_of}

pub card_low : (n i : ℕ) → is_card n i ≡ true → 1 ≤ i
card_low n i is = leb-true 1 i (and_parts (leb 1 i) (leb i n) is).0

pub card_high : (n i : ℕ) → is_card n i ≡ true → i ≤ n
card_high n i is = leb-true i n (and_parts (leb 1 i) (leb i n) is).1

-- rows of one width
pub row_fits : (a b p : ℕ) → a < b → a * p + p ≤ b * p
row_fits a b p h = subst (λ m. m ≤ b * p) (suc-mul a p) (mul-le-mul_right p h)

pub part_within : (n i p : ℕ) → is_card n i ≡ true → (i - 1) * p + p ≤ n * p
part_within n i p is = row_fits (i - 1) n p (omega (arith, card_low n i is, card_high n i is))

pub part_long : (n i p : ℕ) (entries : List Entry) → is_card n i ≡ true → length entries ≡ n * p → length (part_of p i entries) ≡ p
part_long n i p entries is long =
    omega (arith, length-take p (drop ((i - 1) * p) entries), length-drop ((i - 1) * p) entries, part_within n i p is, long)

-- one card's part replaced, every other as it was
module _ (n p i : ℕ) (entries entries' part : List Entry) where
  pub record Replaced : Type 0 where
    pub own : part_of p i entries' ≡ part
    pub others : (j : ℕ) → is_card n j ≡ true → (j ≡ i → ⊥) → part_of p j entries' ≡ part_of p j entries

  pub replaced : (low k : ℕ) → is_card n i ≡ true → length entries ≡ n * p → length part ≡ p → low ≡ (i - 1) * p → k ≡ p → entries' ≡ put_mid low k entries part → Replaced
  replaced low k is long fits from wide e = record { own = here; others = there }
    where
      inside : low + p ≤ length entries
      inside = omega (arith, part_within n i p is, long, from)

      mid : entries' ≡ put_mid low p entries part
      mid = e ∙ ap (λ w. put_mid low w entries part) wide

      width : low + p - low ≡ p
      width = omega arith

      here : part_of p i entries' ≡ part
      here =
          (λ t. take (sym width t) (drop (sym from t) (mid t)))
          ∙ between-put_mid low p entries part (low + p) (omega (arith, inside)) (omega (arith, fits, width))

      before : (j : ℕ) → (j - 1) * p + p ≤ low → part_of p j entries' ≡ part_of p j entries
      before j h =
          let J = (j - 1) * p in
          let w : J + p - J ≡ p = omega arith in
          ap (λ m. take m (drop J entries')) (sym w)
          ∙ between_is entries' J (J + p)
          ∙ ap (drop J) (ap (take (J + p)) mid ∙ take-put_mid_below low p entries part (J + p) h (omega (arith, inside)))
          ∙ sym (between_is entries J (J + p))
          ∙ ap (λ m. take m (drop J entries)) w

      after : (j : ℕ) → low + p ≤ (j - 1) * p → part_of p j entries' ≡ part_of p j entries
      after j h = ap (take p) (ap (drop ((j - 1) * p)) mid ∙ drop-put_mid low p entries part ((j - 1) * p) h (omega (arith, inside)) fits)

      there : (j : ℕ) → is_card n j ≡ true → (j ≡ i → ⊥) → part_of p j entries' ≡ part_of p j entries
      there j is' apart = ⊎_elim left right (cases_lt (j - 1) (i - 1))
        where
          left : j - 1 < i - 1 → part_of p j entries' ≡ part_of p j entries
          left h = before j (omega (arith, row_fits (j - 1) (i - 1) p h, from))

          right : i - 1 ≤ j - 1 → part_of p j entries' ≡ part_of p j entries
          right h = after j (omega (arith, row_fits (i - 1) (j - 1) p (omega (arith, h, card_low n i is, card_low n j is', apart)), from))

pub replaced_none : (n p i : ℕ) (entries : List Entry) → Replaced n p i entries entries (part_of p i entries)
replaced_none n p i entries = record { own = refl; others = λ _ _ _. refl }

-- a part that is written back as it was
pub put_same : (a k : ℕ) (xs : List Entry) → put_mid a k xs (take k (drop a xs)) ≡ xs
put_same a k xs = ap (λ ys. take a xs ++ ys) (take-append-drop k (drop a xs)) ∙ take-append-drop a xs

-- entries taken apart around a part, and joined again with what the part became
pub joined : (low p : ℕ) (xs front rest back left now : List Entry) → front ≡ take low xs → rest ≡ drop low xs → back ≡ drop p rest → left ≡ now → front ++ (left ++ back) ≡ put_mid low p xs now
joined low p xs front rest back left now f r b e = λ k. f k ++ (e k ++ (b ∙ ap (drop p) r) k)

-- the logs after one card's part and its used places changed
pub logs_set : (n p i u : ℕ) (used : List ℕ) (entries entries' part : List Entry) → is_card n i ≡ true → n ≤ length used → Replaced n p i entries entries' part → logs_of n p (set used (i - 1) u) entries' ≡ at i (log_of part u) (logs_of n p used entries)
logs_set n p i u used entries entries' part is long w = fun_ext λ j. one j (eqb j i) refl (is_card n j) refl
  where
    low : 1 ≤ i
    low = card_low n i is

    high : i ≤ n
    high = card_high n i is

    same : card_log p (set used (i - 1) u) entries' i ≡ log_of part u
    same = (λ k. log_of (w.own k) (get_or-set_same used (i - 1) u 0 (omega (arith, low, high, long)) k))

    other : (j : ℕ) → is_card n j ≡ true → (j ≡ i → ⊥) → card_log p (set used (i - 1) u) entries' j ≡ card_log p used entries j
    other j h ne =
        let apart : j - 1 ≢ i - 1 = omega (arith, ne, low, card_low n j h) in
        λ k. log_of (w.others j h ne k) (get_or-set_other used (i - 1) (j - 1) u 0 apart k)

    one : (j : ℕ) (b : Bool) → eqb j i ≡ b → (t : Bool) → is_card n j ≡ t → logs_of n p (set used (i - 1) u) entries' j ≡ cond (eqb j i) (log_of part u) (logs_of n p used entries j)
    one j true e t h =
        let eq : j ≡ i = eqb-true j i e in
        ap (logs_of n p (set used (i - 1) u) entries') eq
        ∙ ap (λ b. cond b (card_log p (set used (i - 1) u) entries' i) []) is
        ∙ same
        ∙ sym (ap (λ b. cond b (log_of part u) (logs_of n p used entries j)) e)
    one j false e true h =
        ap (λ b. cond b (card_log p (set used (i - 1) u) entries' j) []) h
        ∙ other j h (eqb-false j i e)
        ∙ sym (ap (λ b. cond b (log_of part u) (logs_of n p used entries j)) e ∙ ap (λ b. cond b (card_log p used entries j) []) h)
    one j false e false h =
        ap (λ b. cond b (card_log p (set used (i - 1) u) entries' j) []) h
        ∙ sym (ap (λ b. cond b (log_of part u) (logs_of n p used entries j)) e ∙ ap (λ b. cond b (card_log p used entries j) []) h)

-- used places stay within a log
pub fits_set : (used : List ℕ) (i u p : ℕ) → u ≤ p → ((k : ℕ) → get_or used k 0 ≤ p) → (k : ℕ) → get_or (set used i u) k 0 ≤ p
fits_set [] i u p one all k = all k
fits_set (v ∷ used) zero u p one all zero = one
fits_set (v ∷ used) zero u p one all (suc k) = all (suc k)
fits_set (v ∷ used) (suc i) u p one all zero = all 0
fits_set (v ∷ used) (suc i) u p one all (suc k) = fits_set used i u p one (λ j. all (suc j)) k
