-- Making, packing and unpacking a posting.
use Rattle.std.specs.Prelude.{ℕ, cond, ◌&&◌, ℤ, pos, ◌+ℤ◌, ◌-ℤ◌, Some, None, Option, ◌==◌, nat_lt, unsigned_abs, refl}
use Rattle.std.specs.Option.{unwrap_or}
use Rattle.machines.specs.Guard.{whenever}
use Rattle.ledger.specs.Ranges.{postable}
use Rattle.ledger.specs.declared.postings.Posting.{Posting}

abbrev pub drafted : ℕ × ℤ → Option Posting
drafted draft = whenever (postable draft.0 draft.1) (λ e. Some (record { carrier = draft.0; cents = draft.1; inside = e })) None

-- carrier 0, amount 0
abbrev pub blank_posting : Posting
blank_posting = record { carrier = 0; cents = pos 0; inside = refl }

-- carrier, amount + 2147483648, 0
abbrev pub packed : Posting → ℕ × ℕ × ℕ
packed p = (p.carrier, unsigned_abs (p.cents +ℤ pos 2147483648), 0)

abbrev pub unpacked : ℕ × ℕ × ℕ → Posting
unpacked w = cond (nat_lt w.1 4294967296 && w.2 == 0) (unwrap_or (drafted (w.0, pos w.1 -ℤ pos 2147483648)) blank_posting) blank_posting
