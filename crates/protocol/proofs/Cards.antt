-- Of a card's role, and of the rows that it goes by.
use Rattle.std.proofs.Common.{◌≡◌, ℕ, zero, suc, Bool, true, false, cond, List, [], ◌∷◌, sym}
use Rattle.std.specs.List.{AllByRecursion}
use Rattle.std.proofs.lemmas.Bool.{true≢false}
use Rattle.marks.specs.Rows.{largest_of}
use Rattle.protocol.specs.Rows.{rows_of}
use Rattle.protocol.specs.Rack.{is_electing, is_leader}
use Rattle.protocol.specs.declared.card.Role.{Role}
use Rattle.protocol.specs.declared.card.Role.TheVariants.{Electing, Leader, Follower}

-- no card stands and leads
pub not_both : (r : Role) → is_electing r ≡ true → is_leader r ≡ true → ⊥
not_both Electing a b = true≢false (sym b)
not_both Leader a b = true≢false (sym a)
not_both Follower a b = true≢false (sym a)

-- what holds of each row holds of all of them
pub each_row : {A : Type 0} (P : A → Type 0) (row : ℕ → A) (n : ℕ) → ((j : ℕ) → P (row j)) → AllByRecursion P (rows_of row n)
each_row P row zero h = tt
each_row P row (suc n) h = (h 1, each_row P (λ j. row (suc j)) n (λ j. h (suc j)))

-- the largest of some rows is one of them
pub largest_one : {A : Type 0} (P : A → Type 0) (up_to : A → A → Bool) (x : A) (xs : List A) → P x → AllByRecursion P xs → P (largest_of up_to x xs)
largest_one P up_to x [] p h = p
largest_one P up_to x (y ∷ ys) p h = largest_one P up_to _ ys (pick (up_to x y)) h.1
  where
    pick : (b : Bool) → P (cond b y x)
    pick true = h.0
    pick false = p
