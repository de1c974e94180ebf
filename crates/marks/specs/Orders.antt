-- Headers and votes are in a total order: one step for each number that is compared.
use Rattle.std.specs.Prelude.{◌≡◌, ℕ, Bool, true, ◌⊎◌, nat_le}
use Rattle.std.proofs.Common.{arith}
use Rattle.std.proofs.lemmas.Bool.Decides.{nat_tests}
use Rattle.marks.specs.Kinds.{Header, Vote}
use Rattle.marks.specs.Order.{TotalOrder, left_first, header_up_to, vote_up_to}

left_compares : (x y : ℕ) (r s : Bool) → (r ≡ true) ⊎ (s ≡ true) → (left_first x y r ≡ true) ⊎ (left_first y x s ≡ true)
left_compares x y r s h = grind (arith, nat_tests)

left_settles : (x y : ℕ) (r s : Bool) → left_first x y r ≡ true → left_first y x s ≡ true → (x ≡ y) × (r ≡ true) × (s ≡ true)
left_settles x y r s p q = (grind (arith, nat_tests), grind (arith, nat_tests), grind (arith, nat_tests))

left_chains : (x y z : ℕ) (r s t : Bool) → left_first x y r ≡ true → left_first y z s ≡ true → (r ≡ true → s ≡ true → t ≡ true) → left_first x z t ≡ true
left_chains x y z r s t p q h = grind (arith, nat_tests)

last_compares : (x y : ℕ) → (nat_le x y ≡ true) ⊎ (nat_le y x ≡ true)
last_compares x y = grind (arith, nat_tests)

last_settles : (x y : ℕ) → nat_le x y ≡ true → nat_le y x ≡ true → x ≡ y
last_settles x y p q = grind (arith, nat_tests)

last_chains : (x y z : ℕ) → nat_le x y ≡ true → nat_le y z ≡ true → nat_le x z ≡ true
last_chains x y z p q = grind (arith, nat_tests)

pub header_order : TotalOrder header_up_to
header_order = record { compares = compares; settles = settles; chains = chains }
  where
    compares : (a b : Header) → (header_up_to a b ≡ true) ⊎ (header_up_to b a ≡ true)
    compares a b = left_compares a.0 b.0 _ _ (left_compares a.1 b.1 _ _ (last_compares a.2 b.2))

    settles : (a b : Header) → header_up_to a b ≡ true → header_up_to b a ≡ true → a ≡ b
    settles a b p q =
        let f = left_settles a.0 b.0 _ _ p q in
        let s = left_settles a.1 b.1 _ _ f.1 f.2 in
        let t = last_settles a.2 b.2 s.1 s.2 in
        λ i. (f.0 i, s.0 i, t i)

    chains : (a b c : Header) → header_up_to a b ≡ true → header_up_to b c ≡ true → header_up_to a c ≡ true
    chains a b c p q =
        left_chains a.0 b.0 c.0 _ _ _ p q λ p q.
        left_chains a.1 b.1 c.1 _ _ _ p q (last_chains a.2 b.2 c.2)

pub vote_order : TotalOrder vote_up_to
vote_order = record { compares = compares; settles = settles; chains = chains }
  where
    compares : (a b : Vote) → (vote_up_to a b ≡ true) ⊎ (vote_up_to b a ≡ true)
    compares a b = left_compares a.0.0 b.0.0 _ _ (left_compares a.0.1 b.0.1 _ _ (header_order.compares a.1 b.1))

    settles : (a b : Vote) → vote_up_to a b ≡ true → vote_up_to b a ≡ true → a ≡ b
    settles a b p q =
        let f = left_settles a.0.0 b.0.0 _ _ p q in
        let s = left_settles a.0.1 b.0.1 _ _ f.1 f.2 in
        let t = header_order.settles a.1 b.1 s.1 s.2 in
        λ i. ((f.0 i, s.0 i), t i)

    chains : (a b c : Vote) → vote_up_to a b ≡ true → vote_up_to b c ≡ true → vote_up_to a c ≡ true
    chains a b c p q =
        left_chains a.0.0 b.0.0 c.0.0 _ _ _ p q λ p q.
        left_chains a.0.1 b.0.1 c.0.1 _ _ _ p q (header_order.chains a.1 b.1 c.1)
