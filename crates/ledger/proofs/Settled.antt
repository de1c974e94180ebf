-- A posting moves one balance by its amount or nothing at all, and every run keeps all balances within their bounds.
use Rattle.std.proofs.Common.{◌≡◌, ℕ, true, ◌⊎◌, All, List, [], ◌∷◌, length, set, ℤ, pos, ◌+ℤ◌, sym, refl, ap, ◌∙◌, inl, inr, ⊎_elim, get_or-set_other, get_or-set_same}
use Rattle.std.proofs.lemmas.Bool.{cases_Bool, cases_eq, cases_lt, cond-true, cond-false, cond_both}
use Rattle.std.proofs.lemmas.List.{set_past, get_or_past}
use Rattle.std.proofs.lemmas.List.Elements.{All-set, All-replicate, All-get_or}
use Rattle.machines.specs.Lone.{carried}
use Rattle.machines.specs.declared.runs.Item.{Item}
use Rattle.ledger.specs.Ranges.{bearable}
use Rattle.ledger.specs.Postings.{unpacked}
use Rattle.ledger.specs.Balances.{balance_of, opening, posted}
use Rattle.ledger.specs.Laws.{ExactOrNone, RunsWithin}
use Rattle.ledger.specs.declared.postings.Posting.{Posting}

-- a store into one balance
stored : (xs : List ℤ) (i : ℕ) (z : ℤ) (k : ℕ) → (balance_of (set xs i z) k ≡ balance_of xs k) ⊎ ((k ≡ i) × (balance_of (set xs i z) k ≡ z))
stored xs i z k =
    ⊎_elim
    (λ e.
    ⊎_elim
    (λ h. inr (e, ap (balance_of (set xs i z)) e ∙ get_or-set_same xs i z (pos 0) h))
    (λ h. inl (ap (λ ys. balance_of ys k) (set_past xs i z h)))
    (cases_lt i (length xs)))
    (λ ne. inl (get_or-set_other xs i k z (pos 0) ne))
    (cases_eq k i)

pub exact_or_none : ExactOrNone
exact_or_none queue p balances carrier =
    let sum = balance_of balances p.carrier +ℤ p.cents in
    ⊎_elim
    (λ b.
    let now_is = ap (λ s. balance_of s carrier) (cond-true (bearable sum) (set balances p.carrier sum) balances b) in
    ⊎_elim
    (λ same. inl (now_is ∙ same))
    (λ moved. inr (moved.0, now_is ∙ moved.1 ∙ ap (λ k. balance_of balances k +ℤ p.cents) (sym moved.0)))
    (stored balances p.carrier sum carrier))
    (λ b. inl (ap (λ s. balance_of s carrier) (cond-false (bearable sum) (set balances p.carrier sum) balances b)))
    (cases_Bool (bearable sum))

abbrev Within : List ℤ → Type 0
Within = All (λ z. bearable z ≡ true)

posted_within : (queue : ℕ) (p : Posting) (balances : List ℤ) → Within balances → Within (posted queue p balances)
posted_within queue p balances all =
    let sum = balance_of balances p.carrier +ℤ p.cents in
    cond_both (bearable sum) (set balances p.carrier sum) balances Within (λ e. All-set (λ z. bearable z ≡ true) balances p.carrier sum e all) (λ _. all)

carried_within : (items : List Item) (balances : List ℤ) → Within balances → Within (carried posted unpacked balances items)
carried_within [] balances all = all
carried_within (i ∷ is) balances all = carried_within is (posted i.queue (unpacked i.words) balances) (posted_within i.queue (unpacked i.words) balances all)

-- where there is no carrier the balance is 0
each : (balances : List ℤ) → Within balances → (k : ℕ) → bearable (balance_of balances k) ≡ true
each balances all k =
    ⊎_elim
    (λ h. All-get_or (λ z. bearable z ≡ true) balances k (pos 0) h all)
    (λ h. ap bearable (get_or_past balances k (pos 0) h))
    (cases_lt k (length balances))

pub runs_within : RunsWithin
runs_within items = each (carried posted unpacked opening items) (carried_within items opening (All-replicate (λ z. bearable z ≡ true) 32 (pos 0) refl))
