-- What the ledger promises to those who post.
use Rattle.std.specs.Prelude.{◌≡◌, ℕ, true, ◌⊎◌, List, ◌∷◌, replicate, ℤ, negsuc, ◌+ℤ◌, Some}
use Rattle.frames.specs.Fields.{fields_of}
use Rattle.frames.specs.Slot.{slot_of}
use Rattle.std.specs.Option.{option_map}
use Rattle.machines.specs.Lone.{alone}
use Rattle.machines.specs.declared.runs.Item.{Item}
use Rattle.ledger.specs.Ranges.{bearable}
use Rattle.ledger.specs.Postings.{drafted, packed, unpacked}
use Rattle.ledger.specs.Balances.{balance_of, opening, posted}
use Rattle.ledger.specs.declared.postings.Posting.{Posting}

-- a balance changes by exactly the amount posted to its carrier, or not at all
abbrev pub ExactOrNone : Type 0
ExactOrNone =
    (queue : ℕ) (p : Posting) (balances : List ℤ) (carrier : ℕ)
    → (balance_of (posted queue p balances) carrier ≡ balance_of balances carrier)
    ⊎ ((carrier ≡ p.carrier) × (balance_of (posted queue p balances) carrier ≡ balance_of balances carrier +ℤ p.cents))

-- after every run of the lone ledger each balance lies within its bounds
abbrev pub RunsWithin : Type 0
RunsWithin = (items : List Item) (carrier : ℕ) → bearable (balance_of (alone opening posted unpacked items) carrier) ≡ true

-- the posting of −500 cents to carrier 2 is made, and packs to these words
abbrev pub SampleWords : Type 0
SampleWords = option_map packed (drafted (2, negsuc 499)) ≡ Some (2, 2147483148, 0)

-- so its message (0, 1, 1) of queue 4 has this slot
abbrev pub SampleSlot : Type 0
SampleSlot =
    option_map (λ p. slot_of (fields_of 1 (0, 1, 1) (4, (packed p).0, (packed p).1, (packed p).2))) (drafted (2, negsuc 499))
    ≡ Some (0x7D ∷ 0x01 ∷ 0x01 ∷ 0x01 ∷ 0 ∷ 0 ∷ 0 ∷ 0x04 ∷ 0 ∷ 0 ∷ 0 ∷ 0 ∷ 0 ∷ 0 ∷ 0 ∷ 0x02 ∷ 0 ∷ 0 ∷ 0 ∷ 0 ∷ 0 ∷ 0 ∷ 0 ∷ 0x0C ∷ 0xFE ∷ 0xFF ∷ 0x7F ∷ 0 ∷ 0 ∷ 0 ∷ 0 ∷ replicate 17 0)
