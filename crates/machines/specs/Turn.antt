-- One turn of any machine: a payload that was made is applied, and none leaves the state.
use Rattle.std.specs.Prelude.{ℕ, Some, None, Option}

abbrev pub performed : {State Payload : Type 0} → (ℕ → Payload → State → State) → ℕ → Option Payload → State → State
performed applied queue None s = s
performed applied queue (Some p) s = applied queue p s
