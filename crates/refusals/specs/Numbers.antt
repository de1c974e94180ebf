-- The number of each refusal. Checks run in the order of these numbers, and the first fault answers.
use Rattle.std.specs.Prelude.{ℕ}
use Rattle.refusals.specs.declared.Refusal.{Refusal}
use Rattle.refusals.specs.declared.Refusal.TheVariants.{NoSuchCard, WrongSize, OutOfRange, Stopped, WrongRole, NothingDue, NotElected, Malformed, OutOfTurn, LogFull, LaneFull, UsedUp}

abbrev pub refusal_number : Refusal → ℕ
refusal_number NoSuchCard = 1
refusal_number WrongSize = 2
refusal_number OutOfRange = 3
refusal_number Stopped = 4
refusal_number WrongRole = 5
refusal_number NothingDue = 6
refusal_number NotElected = 7
refusal_number Malformed = 8
refusal_number OutOfTurn = 9
refusal_number LogFull = 10
refusal_number LaneFull = 11
refusal_number UsedUp = 12
