-- A card's log: the used places of its part, from the front.
use Rattle.std.specs.Prelude.{ℕ, Bool, cond, List, ◌++◌, map, length, take, drop, Some, None, filter, Option, nat_le}
use Rattle.marks.specs.Kinds.{Header}
use Rattle.marks.specs.Order.{header_up_to}
use Rattle.frames.specs.Fields.{EntryFields}
use Rattle.frames.specs.Views.{entry_fields}
use Rattle.frames.specs.declared.entry.Entry.{Entry}

abbrev pub entries_of : List Entry → List EntryFields
entries_of log = map entry_fields log

abbrev pub log_of : List Entry → ℕ → List EntryFields
log_of part len = entries_of (take len part)

abbrev pub is_up_to : Header → Entry → Bool
is_up_to base e = header_up_to e.header base

-- the entries of a log that are at or below a header, as their places hold them
abbrev pub kept_places : Header → List Entry → List Entry
kept_places base log = filter (is_up_to base) log

-- the first of two lists over the front of the second
abbrev pub overlaid : {A : Type 0} → List A → List A → List A
overlaid xs ys = xs ++ drop (length xs) ys

-- all of a list over the front of a buffer, or nothing where the buffer is too short
abbrev pub copied_into : {A : Type 0} → List A → List A → List A
copied_into xs out = cond (nat_le (length xs) (length out)) (overlaid xs out) out

abbrev pub copied_count : ℕ → ℕ → Option ℕ
copied_count count room = cond (nat_le count room) (Some count) None
