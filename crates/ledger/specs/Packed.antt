-- The two laws of the packing, of the ledger.
use Rattle.std.specs.Prelude.{◌≡◌, ℕ, ◌<◌, true, cond, ◌&&◌, ℤ, pos, negsuc, ◌+ℤ◌, ◌-ℤ◌, Some, None, ◌==◌, ◌≢◌, int_le, nat_lt, unsigned_abs}
use Rattle.std.proofs.Common.{sym, ap, ◌∙◌, ⊎_elim, arith}
use Rattle.std.specs.Option.{unwrap_or}
use Rattle.std.proofs.lemmas.Int.{ints}
use Rattle.std.proofs.lemmas.Bool.{cases_Bool, and_parts, lt-ltb, eqb-true, cond-true, cond-false}
use Rattle.machines.proofs.Guarded.{whenever_false}
use Rattle.ledger.specs.Ranges.{postable}
use Rattle.ledger.specs.Postings.{drafted, blank_posting, packed, unpacked}
use Rattle.ledger.specs.declared.postings.Posting.{Posting}
use Rattle.ledger.specs.Made.{posting, drafted_is}

-- the ends of the amount's range
ends : (c : ℕ) (z : ℤ) → postable c z ≡ true → (int_le (negsuc 2147483647) z ≡ true) × (int_le z (pos 2147483647) ≡ true)
ends c z e =
    let cents = int_le (negsuc 2147483647) z && int_le z (pos 2147483647) in
    and_parts _ _ (and_parts (nat_lt c 32) cents e).1

word_fits : (c : ℕ) (z : ℤ) → postable c z ≡ true → nat_lt (unsigned_abs (z +ℤ pos 2147483648)) 4294967296 ≡ true
word_fits c z e =
    let within = ends c z e in
    let below : unsigned_abs (z +ℤ pos 2147483648) < 4294967296 = omega (arith, ints, within.0, within.1) in
    lt-ltb _ _ below

word_back : (c : ℕ) (z : ℤ) → postable c z ≡ true → pos (unsigned_abs (z +ℤ pos 2147483648)) -ℤ pos 2147483648 ≡ z
word_back c z e =
    let within = ends c z e in
    omega (arith, ints, within.0, within.1)

pub back : (p : Posting) → unpacked (packed p) ≡ p
back p =
    let word = unsigned_abs (p.cents +ℤ pos 2147483648) in
    let made = unwrap_or (drafted (p.carrier, pos word -ℤ pos 2147483648)) blank_posting in
    ap (λ b. cond (b && true) made blank_posting) (word_fits p.carrier p.cents p.inside)
    ∙ ap (λ z. unwrap_or (drafted (p.carrier, z)) blank_posting) (word_back p.carrier p.cents p.inside)
    ∙ ap (λ o. unwrap_or o blank_posting) (drafted_is p.carrier p.cents p.inside)

again : (a : ℕ) → unsigned_abs ((pos a -ℤ pos 2147483648) +ℤ pos 2147483648) ≡ a
again a = omega (arith, ints)

pub other : (w : ℕ × ℕ × ℕ) → ((p : Posting) → packed p ≢ w) → unpacked w ≡ blank_posting
other w none =
    let cents = pos w.1 -ℤ pos 2147483648 in
    let made = unwrap_or (drafted (w.0, cents)) blank_posting in
    ⊎_elim
    (λ e.
    cond-true (nat_lt w.1 4294967296 && w.2 == 0) made blank_posting e
    ∙ ⊎_elim
    (λ h. absurd (none (posting w.0 cents h) (ap (λ a. (w.0, a, 0)) (again w.1) ∙ ap (λ b. (w.0, w.1, b)) (sym (eqb-true w.2 0 (and_parts _ _ e).1)))))
    (λ h. ap (λ o. unwrap_or o blank_posting) (whenever_false (postable w.0 cents) (λ t. Some (posting w.0 cents t)) None h))
    (cases_Bool (postable w.0 cents)))
    (λ e. cond-false (nat_lt w.1 4294967296 && w.2 == 0) made blank_posting e)
    (cases_Bool (nat_lt w.1 4294967296 && w.2 == 0))
