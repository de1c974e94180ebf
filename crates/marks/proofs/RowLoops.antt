-- The largest row is one of the rows, and no row is above it.
use Rattle.std.proofs.Common.{◌≡◌, ℕ, zero, suc, ◌<◌, Bool, true, false, cond, ◌⊎◌, List, [], ◌∷◌, length, get_or, sym, refl, ◌∙◌, inl, inr, ⊎_elim, arith}
use Rattle.std.proofs.lemmas.Bool.{true≢false}
use Rattle.marks.specs.Order.{TotalOrder}
use Rattle.marks.specs.Rows.{largest_of, Largest}

module _ {A : Type 0} (up_to : A → A → Bool) where
  module _ (order : TotalOrder up_to) where
    self : (x : A) → up_to x x ≡ true
    self x = ⊎_elim (λ e. e) (λ e. e) (order.compares x x)

    -- the larger of two is one of them, and neither is above it
    record Larger (x y z : A) : Type 0 where
      either : (z ≡ x) ⊎ (z ≡ y)
      left : up_to x z ≡ true
      right : up_to y z ≡ true

    larger : (x y : A) (b : Bool) → up_to x y ≡ b → Larger x y (cond b y x)
    larger x y true e = record { either = inr refl; left = e; right = self y }
    larger x y false e = record { either = inl refl; left = self x; right = back (order.compares x y) }
      where
        back : (up_to x y ≡ true) ⊎ (up_to y x ≡ true) → up_to y x ≡ true
        back (inl t) = absurd (true≢false (sym t ∙ e))
        back (inr t) = t

    pub is_largest : (x : A) (xs : List A) → Largest up_to (x ∷ xs) (largest_of up_to x xs)
    is_largest x [] = record { place = 0; within = omega arith; found = refl; above = above }
      where
        above : (k : ℕ) → k < 1 → up_to (get_or (x ∷ []) k x) x ≡ true
        above zero h = self x
        above (suc k) h = absurd (omega arith)
    is_largest x (y ∷ ys) = carry (cond (up_to x y) y x) (larger x y (up_to x y) refl) (is_largest (cond (up_to x y) y x) ys)
      where
        carry : (z : A) → Larger x y z → Largest up_to (z ∷ ys) (largest_of up_to z ys) → Largest up_to (x ∷ (y ∷ ys)) (largest_of up_to z ys)
        carry z pick rest = record { place = (placed rest.place rest.within rest.found).0; within = (placed rest.place rest.within rest.found).1; found = (placed rest.place rest.within rest.found).2; above = above }
          where
            m : A
            m = largest_of up_to z ys

            placed : (p : ℕ) → p < suc (length ys) → get_or (z ∷ ys) p m ≡ m → (q : ℕ) × (q < suc (suc (length ys))) × (get_or (x ∷ (y ∷ ys)) q m ≡ m)
            placed zero h e = ⊎_elim (λ s. (0, omega arith, sym s ∙ e)) (λ s. (1, omega arith, sym s ∙ e)) pick.either
            placed (suc p) h e = (suc (suc p), omega arith, e)

            above : (k : ℕ) → k < suc (suc (length ys)) → up_to (get_or (x ∷ (y ∷ ys)) k m) m ≡ true
            above zero h = order.chains x z m pick.left (rest.above 0 (omega arith))
            above (suc zero) h = order.chains y z m pick.right (rest.above 0 (omega arith))
            above (suc (suc k)) h = rest.above (suc k) (omega arith)
