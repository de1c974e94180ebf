-- The ledger's state: the balance of each carrier, in cents.
use Rattle.std.specs.Prelude.{ℕ, cond, List, replicate, ℤ, pos, ◌+ℤ◌, Some, None, Option, nat_lt, slice_index_or, slice_set}
use Rattle.ledger.specs.Ranges.{bearable}
use Rattle.ledger.specs.declared.postings.Posting.{Posting}

abbrev pub balance_of : List ℤ → ℕ → ℤ
balance_of balances carrier = slice_index_or balances carrier (pos 0)

abbrev pub reported : List ℤ → ℕ → Option ℤ
reported balances carrier = cond (nat_lt carrier 32) (Some (balance_of balances carrier)) None

abbrev pub opening : List ℤ
opening = replicate 32 (pos 0)

-- a balance that would leave its bounds stays as it is
abbrev pub posted : ℕ → Posting → List ℤ → List ℤ
posted queue p balances =
    let sum = balance_of balances p.carrier +ℤ p.cents in
    cond (bearable sum) (slice_set balances p.carrier sum) balances
