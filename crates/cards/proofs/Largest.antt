-- What the loop that seeks the largest row keeps: from the largest so far on, the rows still to come give the largest of all.
use Rattle.std.proofs.Common.{◌≡◌, ℕ, suc, ◌+◌, ◌-◌, ◌<◌, Bool, cond, sym, ap, ◌∙◌, arith}
use Rattle.marks.specs.Rows.{largest_of}
use Rattle.protocol.specs.Rows.{rows_of}

module _ {A : Type 0} (up_to : A → A → Bool) (first : A) (row : ℕ → A) (n : ℕ) where
  pub record Risen (before : ℕ) (most : A) : Type 0 where
    pub rest : largest_of up_to most (rows_of (λ j. row (before + j)) (n - before)) ≡ largest_of up_to first (rows_of row n)

  pub risen_none : Risen 0 first
  risen_none = record { rest = λ i. largest_of up_to first (rows_of (λ j. row (same j i)) (whole i)) }
    where
      same : (j : ℕ) → 0 + j ≡ j
      same j = omega arith

      whole : n - 0 ≡ n
      whole = omega arith

  pub risen_next : (before : ℕ) (most most' r : A) → before < n → Risen before most → r ≡ row (before + 1) → most' ≡ cond (up_to most r) r most → Risen (before + 1) most'
  risen_next before most most' r within c here is = record { rest = sym split ∙ c.rest }
    where
      later : (j : ℕ) → before + suc j ≡ before + 1 + j
      later j = omega arith

      size : n - before ≡ suc (n - (before + 1))
      size = omega arith

      split : largest_of up_to most (rows_of (λ j. row (before + j)) (n - before)) ≡ largest_of up_to most' (rows_of (λ j. row (before + 1 + j)) (n - (before + 1)))
      split =
          ap (λ k. largest_of up_to most (rows_of (λ j. row (before + j)) k)) size
          ∙ (λ i. largest_of up_to (cond (up_to most (sym here i)) (sym here i) most) (rows_of (λ j. row (later j i)) (n - (before + 1))))
          ∙ ap (λ m. largest_of up_to m (rows_of (λ j. row (before + 1 + j)) (n - (before + 1)))) (sym is)

  pub risen_all : (before : ℕ) (most : A) → before ≡ n → Risen before most → most ≡ largest_of up_to first (rows_of row n)
  risen_all before most end c = sym (ap (λ k. largest_of up_to most (rows_of (λ j. row (before + j)) k)) none) ∙ c.rest
    where
      none : n - before ≡ 0
      none = omega arith
