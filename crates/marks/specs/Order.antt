-- Marks are compared left to right; and what a total order is.
use Rattle.std.specs.Prelude.{◌≡◌, ℕ, Bool, true, ◌&&◌, ◌||◌, ◌⊎◌, ◌==◌, nat_le, nat_lt}
use Rattle.marks.specs.Kinds.{Epoch, Header, Vote}

-- the first numbers decide, unless they are equal
abbrev pub left_first : ℕ → ℕ → Bool → Bool
left_first x y rest = nat_lt x y || (x == y && rest)

abbrev pub epoch_below : Epoch → Epoch → Bool
epoch_below a b = left_first a.0 b.0 (nat_lt a.1 b.1)

abbrev pub epoch_up_to : Epoch → Epoch → Bool
epoch_up_to a b = left_first a.0 b.0 (nat_le a.1 b.1)

abbrev pub epoch_same : Epoch → Epoch → Bool
epoch_same a b = a.0 == b.0 && a.1 == b.1

abbrev pub header_below : Header → Header → Bool
header_below a b = left_first a.0 b.0 (left_first a.1 b.1 (nat_lt a.2 b.2))

abbrev pub header_up_to : Header → Header → Bool
header_up_to a b = left_first a.0 b.0 (left_first a.1 b.1 (nat_le a.2 b.2))

abbrev pub vote_up_to : Vote → Vote → Bool
vote_up_to a b = left_first a.0.0 b.0.0 (left_first a.0.1 b.0.1 (header_up_to a.1 b.1))

-- any two compare, two that are at most each other are equal, and chains hold
pub record TotalOrder {A : Type 0} (up_to : A → A → Bool) : Type 0 where
  pub compares : (a b : A) → (up_to a b ≡ true) ⊎ (up_to b a ≡ true)
  pub settles : (a b : A) → up_to a b ≡ true → up_to b a ≡ true → a ≡ b
  pub chains : (a b c : A) → up_to a b ≡ true → up_to b c ≡ true → up_to a c ≡ true
