-- What is read off a rack: a card's log, and its delivered list.
use Rattle.std.specs.Prelude.{◌≡◌, ℕ, Bool, true, false, cond, ◌&&◌, List, map, length, take, drop, Ok, Err, Result, nat_le}
use Rattle.std.specs.Borrow.{Bor}
use Rattle.refusals.specs.declared.Refusal.TheVariants.{NoSuchCard, WrongSize}
use Rattle.frames.specs.declared.entry.Entry.{Entry}
use Rattle.frames.specs.Fields.{EntryFields}
use Rattle.frames.specs.Views.{entry_fields}
use Rattle.rack.specs.Faults.{rack_refusal}
use Rattle.rack.specs.declared.fault.RackFault.{RackFault}

-- the list, in order, over the front of the buffer, and the rest of the buffer as it was; refused by 1 without such a card, and by 2 where a length does not fit
abbrev pub ReadOut : Bool → Bool → List EntryFields → List Entry → List Entry → Result ℕ RackFault → Type 0
ReadOut missing fits list out out' (Ok count) =
    (missing ≡ false) × ((fits && nat_le (length list) (length out)) ≡ true) × (count ≡ length list)
    × (map entry_fields (take count out') ≡ list) × (drop count out' ≡ drop count out)
ReadOut missing fits list out out' (Err fault) =
    (rack_refusal fault ≡ cond missing NoSuchCard WrongSize) × (cond missing false (fits && nat_le (length list) (length out)) ≡ false) × (out' ≡ out)

-- a card's log, seen in the entries
abbrev pub LogSeen : Bool → Bool → List EntryFields → Result (Bor (List Entry)) RackFault → Type 0
LogSeen missing fits log (Ok seen) = (missing ≡ false) × (fits ≡ true) × (map entry_fields seen.now ≡ log)
LogSeen missing fits log (Err fault) = (rack_refusal fault ≡ cond missing NoSuchCard WrongSize) × (cond missing false fits ≡ false)
