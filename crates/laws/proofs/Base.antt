-- Numbers for epochs, and small facts on lists, counts and pointwise updates.
use Rattle.std.proofs.Common.{◌≡◌, ℕ, zero, suc, ◌+◌, ◌*◌, ◌/◌, ◌%◌, ◌<◌, ◌≤◌, Bool, true, false, cond, ◌&&◌, ltb, leb, List, [], ◌∷◌, map, get_or, set, filter, sym, refl, ap, subst, ⊎_elim, arith}
use Rattle.std.specs.List.{AllByRecursion}
use Rattle.std.proofs.lemmas.Bool.Decides.{nat_tests}
use Rattle.std.proofs.lemmas.Bool.{eq-eqb, ne_eqb, true≢false, cases_eq}
use Rattle.marks.specs.Kinds.{Epoch, Header}
use Rattle.marks.specs.Order.{left_first}
use Rattle.protocol.specs.Rack.{at}

-- an epoch as one number, for leaders below 8
abbrev pub en : Epoch → ℕ
en e = e.0 * 8 + e.1

abbrev pub hn : Header → ℕ
hn h = h.0 * 8 + h.1

-- (E, k) is at most, or below, (e, m)
pub record Up (E k e m : ℕ) : Type 0 where
  pub epoch : E ≤ e
  pub count : E ≡ e → k ≤ m

pub record Lt (E k e m : ℕ) : Type 0 where
  pub epoch : E ≤ e
  pub count : E ≡ e → k < m

-- the orders by numbers
pub below_num : (r l q m : ℕ) → l < 8 → m < 8 → left_first r q (ltb l m) ≡ ltb (r * 8 + l) (q * 8 + m)
below_num r l q m a b = grind (arith, nat_tests)

pub upto_num : (r l q m : ℕ) → l < 8 → m < 8 → left_first r q (leb l m) ≡ leb (r * 8 + l) (q * 8 + m)
upto_num r l q m a b = grind (arith, nat_tests)

pub same_num : (r l q m : ℕ) → l < 8 → m < 8 → r * 8 + l ≡ q * 8 + m → (r ≡ q) × (l ≡ m)
same_num r l q m a b h = (omega arith, omega arith)

pub header_upto : (r l k q m j : ℕ) → l < 8 → m < 8 → left_first r q (left_first l m (leb k j)) ≡ true → Up (r * 8 + l) k (q * 8 + m) j
header_upto r l k q m j a b h = record { epoch = grind (arith, nat_tests); count = λ e. grind (arith, nat_tests) }

pub header_upto_false : (r l k q m j : ℕ) → l < 8 → m < 8 → left_first r q (left_first l m (leb k j)) ≡ false → Lt (q * 8 + m) j (r * 8 + l) k
header_upto_false r l k q m j a b h = record { epoch = grind (arith, nat_tests); count = λ e. grind (arith, nat_tests) }

pub header_below_lem : (r l k q m j : ℕ) → l < 8 → m < 8 → left_first r q (left_first l m (ltb k j)) ≡ true → Lt (r * 8 + l) k (q * 8 + m) j
header_below_lem r l k q m j a b h = record { epoch = grind (arith, nat_tests); count = λ e. grind (arith, nat_tests) }

pub header_below_false : (r l k q m j : ℕ) → l < 8 → m < 8 → left_first r q (left_first l m (ltb k j)) ≡ false → Up (q * 8 + m) j (r * 8 + l) k
header_below_false r l k q m j a b h = record { epoch = grind (arith, nat_tests); count = λ e. grind (arith, nat_tests) }

-- and back
pub upto_header : (r l k q m j : ℕ) → l < 8 → m < 8 → Up (r * 8 + l) k (q * 8 + m) j → left_first r q (left_first l m (leb k j)) ≡ true
upto_header r l k q m j a b h = grind (arith, nat_tests, h.epoch, h.count)

pub not_upto_header : (r l k q m j : ℕ) → l < 8 → m < 8 → Lt (q * 8 + m) j (r * 8 + l) k → left_first r q (left_first l m (leb k j)) ≡ false
not_upto_header r l k q m j a b h = grind (arith, nat_tests, h.epoch, h.count)

pub below_header : (r l k q m j : ℕ) → l < 8 → m < 8 → Lt (r * 8 + l) k (q * 8 + m) j → left_first r q (left_first l m (ltb k j)) ≡ true
below_header r l k q m j a b h = grind (arith, nat_tests, h.epoch, h.count)

pub not_below_header : (r l k q m j : ℕ) → l < 8 → m < 8 → Up (q * 8 + m) j (r * 8 + l) k → left_first r q (left_first l m (ltb k j)) ≡ false
not_below_header r l k q m j a b h = grind (arith, nat_tests, h.epoch, h.count)

-- pointwise updates
pub at_same : {A : Type 0} (i : ℕ) (a : A) (f : ℕ → A) → at i a f i ≡ a
at_same i a f = ap (λ b. cond b a (f i)) (eq-eqb i i refl)

pub at_other : {A : Type 0} (i : ℕ) (a : A) (f : ℕ → A) (j : ℕ) → (j ≡ i → ⊥) → at i a f j ≡ f j
at_other i a f j h = ap (λ b. cond b a (f j)) (ne_eqb j i h)

-- what holds of the new value at i, and of the old one elsewhere
pub at_all : {A : Type 0} (P : ℕ → A → Type 0) (i : ℕ) (a : A) (f : ℕ → A) → P i a → ((j : ℕ) → (j ≡ i → ⊥) → P j (f j)) → (j : ℕ) → P j (at i a f j)
at_all P i a f h k j = ⊎_elim same other (cases_eq j i)
  where
    same : j ≡ i → P j (at i a f j)
    same e = subst (λ x. P x (at i a f x)) (sym e) (subst (P i) (sym (at_same i a f)) h)

    other : (j ≡ i → ⊥) → P j (at i a f j)
    other e = subst (P j) (sym (at_other i a f j e)) (k j e)

-- lists
pub kept_all : {X : Type 0} (p : X → Bool) (xs : List X) → AllByRecursion (λ x. p x ≡ true) xs → filter p xs ≡ xs
kept_all p [] h = refl
kept_all p (x ∷ xs) h = rw h.0 (ap (λ ys. x ∷ ys) (kept_all p xs h.1))

pub kept_none : {X : Type 0} (p : X → Bool) (xs : List X) → AllByRecursion (λ x. p x ≡ false) xs → filter p xs ≡ []
kept_none p [] h = refl
kept_none p (x ∷ xs) h = rw h.0 (kept_none p xs h.1)

-- every value at an index, after one was set
pub set_all : {A : Type 0} (P : ℕ → A → Type 0) (xs : List A) (d : A) (i : ℕ) (a : A) → P i a → ((k : ℕ) → P k (get_or xs k d)) → (k : ℕ) → P k (get_or (set xs i a) k d)
set_all P [] d i a h g k = g k
set_all P (x ∷ xs) d zero a h g zero = h
set_all P (x ∷ xs) d zero a h g (suc k) = g (suc k)
set_all P (x ∷ xs) d (suc i) a h g zero = g zero
set_all P (x ∷ xs) d (suc i) a h g (suc k) = set_all (λ n. P (suc n)) xs d i a h (λ n. g (suc n)) k

pub get_or_mapped : {A B : Type 0} (f : A → B) (xs : List A) (d : A) (k : ℕ) → get_or (map f xs) k (f d) ≡ f (get_or xs k d)
get_or_mapped f [] d k = refl
get_or_mapped f (x ∷ xs) d zero = refl
get_or_mapped f (x ∷ xs) d (suc k) = get_or_mapped f xs d k

-- how many of the first n numbers pass
abbrev pub how_many : (ℕ → Bool) → ℕ → ℕ
how_many p zero = 0
how_many p (suc n) = cond (p 0) 1 0 + how_many (λ k. p (suc k)) n

one_more : (a b : Bool) (m n : ℕ) → (a ≡ true → b ≡ true) → m ≤ n → cond a 1 0 + m ≤ cond b 1 0 + n
one_more a b m n h l = grind (arith, h)

pub how_many_mono : (p q : ℕ → Bool) (n : ℕ) → ((k : ℕ) → p k ≡ true → q k ≡ true) → how_many p n ≤ how_many q n
how_many_mono p q zero h = omega arith
how_many_mono p q (suc n) h = one_more (p 0) (q 0) _ _ (h 0) (how_many_mono (λ k. p (suc k)) (λ k. q (suc k)) n (λ k. h (suc k)))

pub how_many_all : (p : ℕ → Bool) (n : ℕ) → ((k : ℕ) → p k ≡ true) → n ≤ how_many p n
how_many_all p zero h = omega arith
how_many_all p (suc n) h = rw (h 0) (omega (arith, how_many_all (λ k. p (suc k)) n (λ k. h (suc k))))

-- two counts above n together share a number
pub shared : (p q : ℕ → Bool) (n : ℕ) → n < how_many p n + how_many q n → (k : ℕ) × (p k ≡ true) × (q k ≡ true)
shared p q zero h = absurd (omega arith)
shared p q (suc n) h = by (p 0) refl (q 0) refl (shared (λ k. p (suc k)) (λ k. q (suc k)) n)
  where
    by : (a : Bool) → p 0 ≡ a → (b : Bool) → q 0 ≡ b → (n < how_many (λ k. p (suc k)) n + how_many (λ k. q (suc k)) n → (k : ℕ) × (p (suc k) ≡ true) × (q (suc k) ≡ true)) → (k : ℕ) × (p k ≡ true) × (q k ≡ true)
    by true a true b rest = (0, a, b)
    by true a false b rest = let r = rest (omega (arith, rw (a, b) at h)) in (suc r.0, r.1, r.2)
    by false a true b rest = let r = rest (omega (arith, rw (a, b) at h)) in (suc r.0, r.1, r.2)
    by false a false b rest = let r = rest (omega (arith, rw (a, b) at h)) in (suc r.0, r.1, r.2)

pub one_of : (p : ℕ → Bool) (n : ℕ) → 0 < how_many p n → (k : ℕ) × (p k ≡ true)
one_of p zero h = absurd (omega arith)
one_of p (suc n) h = by (p 0) refl (one_of (λ k. p (suc k)) n)
  where
    by : (a : Bool) → p 0 ≡ a → (0 < how_many (λ k. p (suc k)) n → (k : ℕ) × (p (suc k) ≡ true)) → (k : ℕ) × (p k ≡ true)
    by true a rest = (0, a)
    by false a rest = let r = rest (omega (arith, rw a at h)) in (suc r.0, r.1)

-- an epoch's leader
pub leader_num : (r l : ℕ) → l < 8 → (r * 8 + l) % 8 ≡ l
leader_num r l h = omega arith

pub round_num : (r l : ℕ) → l < 8 → (r * 8 + l) / 8 ≡ r
round_num r l h = omega arith

pub and_second : (a b : Bool) → a ≡ true → a && b ≡ false → b ≡ false
and_second true b e h = h
and_second false b e h = absurd (true≢false (sym e))
