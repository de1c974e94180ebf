-- A log that is edited: what it holds, and that it stays in the places that it was lent.
use Rattle.std.specs.Prelude.{◌≡◌, List, length}
use Rattle.frames.specs.Fields.{EntryFields}
use Rattle.logs.specs.Log.{log_of}
use Rattle.logs.specs.declared.log.Log.{Log}

abbrev pub logged : Log → List EntryFields
logged log = log_of log.places.now log.used

abbrev pub SamePlaces : Log → Log → Type 0
SamePlaces log log' = (log'.places.ghost_name ≡ log.places.ghost_name) × (length log'.places.now ≡ length log.places.now)

-- every place, used or not, holds what it held, and as many are used
abbrev pub Untouched : Log → Log → Type 0
Untouched log log' = (log'.places.now ≡ log.places.now) × (log'.used ≡ log.used)
