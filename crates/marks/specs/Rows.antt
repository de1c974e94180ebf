-- The largest of some rows, and how many rows lie between two marks: one text for every kind of mark.
use Rattle.std.specs.Prelude.{◌≡◌, ℕ, ◌+◌, ◌<◌, Bool, true, cond, ◌&&◌, List, [], ◌∷◌, length, get_or, slice_index_or, fold}

module _ {A : Type 0} (up_to : A → A → Bool) where
  abbrev pub largest_of : A → List A → A
  largest_of = fold (λ most row. cond (up_to most row) row most)

  -- one of the rows, and no row is above it
  pub record Largest (rows : List A) (r : A) : Type 0 where
    pub place : ℕ
    pub within : place < length rows
    pub found : get_or rows place r ≡ r
    pub above : (k : ℕ) → k < length rows → up_to (slice_index_or rows k r) r ≡ true

  -- rows from low to high, ends counted
  abbrev pub count_between : A → A → List A → ℕ
  count_between low high [] = 0
  count_between low high (x ∷ xs) = cond (up_to low x && up_to x high) 1 0 + count_between low high xs
