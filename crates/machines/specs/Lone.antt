-- The lone machine, over any machine's meaning: from the start, each item's queue and unpacked words in turn, the first item first.
use Rattle.std.specs.Prelude.{ℕ, List, fold}
use Rattle.machines.specs.declared.runs.Item.{Item}

module _ {State Payload : Type 0} (applied : ℕ → Payload → State → State) (unpacked : ℕ × ℕ × ℕ → Payload) where
  abbrev pub carried : State → List Item → State
  carried = fold (λ s i. applied i.queue (unpacked i.words) s)

abbrev pub alone : {State Payload : Type 0} → State → (ℕ → Payload → State → State) → (ℕ × ℕ × ℕ → Payload) → List Item → State
alone initial applied unpacked items = carried applied unpacked initial items
