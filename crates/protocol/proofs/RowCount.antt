-- What the loop that counts rows keeps: those before its place are counted, and the others are still to come.
use Rattle.std.proofs.Common.{◌≡◌, ℕ, suc, ◌+◌, ◌-◌, ◌<◌, ◌≤◌, Bool, true, false, cond, ◌&&◌, sym, ap, ◌∙◌, arith}
use Rattle.marks.specs.Rows.{count_between}
use Rattle.protocol.specs.Rows.{rows_of}

module _ {A : Type 0} (up_to : A → A → Bool) (low high : A) (row : ℕ → A) (n : ℕ) where
  abbrev pub inside : A → Bool
  inside r = up_to low r && up_to r high

  pub record Counted (before count : ℕ) : Type 0 where
    pub few : count ≤ before
    pub rest : count + count_between up_to low high (rows_of (λ j. row (before + j)) (n - before)) ≡ count_between up_to low high (rows_of row n)

  pub counted_none : Counted 0 0
  counted_none = record { few = omega arith; rest = omega (arith, all) }
    where
      same : (j : ℕ) → 0 + j ≡ j
      same j = omega arith

      whole : n - 0 ≡ n
      whole = omega arith

      all : count_between up_to low high (rows_of (λ j. row (0 + j)) (n - 0)) ≡ count_between up_to low high (rows_of row n)
      all = λ i. count_between up_to low high (rows_of (λ j. row (same j i)) (whole i))

  pub counted_next : (before count count' : ℕ) (r : A) (t : Bool) → before < n → Counted before count → r ≡ row (before + 1) → inside r ≡ t → count' ≡ count + cond t 1 0 → Counted (before + 1) count'
  counted_next before count count' r t within c here test more = record { few = omega (arith, c.few, more, one t); rest = omega (arith, c.rest, more, split) }
    where
      one : (t : Bool) → cond t 1 0 ≤ 1
      one true = omega arith
      one false = omega arith

      later : (j : ℕ) → before + suc j ≡ before + 1 + j
      later j = omega arith

      size : n - before ≡ suc (n - (before + 1))
      size = omega arith

      split : count_between up_to low high (rows_of (λ j. row (before + j)) (n - before)) ≡ cond t 1 0 + count_between up_to low high (rows_of (λ j. row (before + 1 + j)) (n - (before + 1)))
      split =
          ap (λ k. count_between up_to low high (rows_of (λ j. row (before + j)) k)) size
          ∙ (λ i. cond (inside (sym here i)) 1 0 + count_between up_to low high (rows_of (λ j. row (later j i)) (n - (before + 1))))
          ∙ ap (λ b. cond b 1 0 + count_between up_to low high (rows_of (λ j. row (before + 1 + j)) (n - (before + 1)))) test

  pub counted_all : (before count : ℕ) → before ≡ n → Counted before count → count ≡ count_between up_to low high (rows_of row n)
  counted_all before count end c = omega (arith, c.rest, nothing)
    where
      none : n - before ≡ 0
      none = omega arith

      nothing : count_between up_to low high (rows_of (λ j. row (before + j)) (n - before)) ≡ 0
      nothing = ap (λ k. count_between up_to low high (rows_of (λ j. row (before + j)) k)) none
