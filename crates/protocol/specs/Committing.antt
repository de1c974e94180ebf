-- commit, and the machine that it delivers to.
use Rattle.std.specs.Prelude.{ℕ, Bool, cond, not, ◌&&◌, List, [], ◌∷◌, length, Some, None, filter, Option, ◌==◌}
use Rattle.refusals.specs.declared.Refusal.{Refusal}
use Rattle.refusals.specs.declared.Refusal.TheVariants.{NoSuchCard, Stopped, WrongRole, NothingDue}
use Rattle.marks.specs.Kinds.{Header}
use Rattle.marks.specs.Order.{header_up_to}
use Rattle.marks.specs.Rows.{count_between}
use Rattle.frames.specs.Fields.{Words, EntryFields}
use Rattle.protocol.specs.Rows.{row_of, accept_rows, is_majority}
use Rattle.protocol.specs.Rack.{Sizes, State, Reply, with_card, with_machine, ask, no_card, is_electing, is_leader}
use Rattle.protocol.specs.Booking.{place_after, entry_at, inside}
use Rattle.protocol.specs.declared.answer.Answer.TheVariants.{Count}
use Rattle.protocol.specs.declared.card.Card.{Card}

-- the highest header of the current epoch that a row can hold
abbrev pub last_of_epoch : Card → Header
last_of_epoch c = (c.current.0, c.current.1, 4294967295)

-- rows in the current epoch at or above next
abbrev pub reached : Card → List Header → ℕ
reached c rows = count_between header_up_to c.next (last_of_epoch c) rows

-- a leader needs a majority of such accept rows, a follower needs it of its copy of the leader's commit row
abbrev pub supported : Sizes → ℕ → Card → Bool
supported z i c =
    cond (is_leader c.role)
    (is_majority (reached c (accept_rows z.cards i c.accepted c.peers)) z.cards)
    (reached c ((row_of c.peers c.current.1).commit ∷ []) == 1)

abbrev pub one_or_none : Option EntryFields → List EntryFields
one_or_none None = []
one_or_none (Some e) = e ∷ []

abbrev pub opens_epoch : Card → Bool
opens_epoch c = c.next.2 == 0

-- with next's count 0 every entry above committed and below next, otherwise the entry at next
abbrev pub due_entries : Card → List EntryFields → List EntryFields
due_entries c log = cond (opens_epoch c) (filter (inside c.committed c.next) log) (one_or_none (entry_at c.next log))

-- the last entry's header, or the one before where nothing is delivered
abbrev pub last_header : Header → List EntryFields → Header
last_header h [] = h
last_header h (e ∷ es) = last_header e.header es

abbrev pub committed_to : List EntryFields → Card → Card
committed_to entries c = record {
  role = c.role;
  stopped = c.stopped;
  current = c.current;
  newest = c.newest;
  accepted = c.accepted;
  committed = last_header c.committed entries;
  next = place_after c.next;
  vote = c.vote;
  peers = c.peers;
}

abbrev pub commit_checks : {S : Type 0} → Sizes → ℕ → State S → List (Bool × Refusal)
commit_checks z i s =
    (no_card z i, NoSuchCard)
    ∷ ((s.cards i).stopped, Stopped)
    ∷ (is_electing (s.cards i).role, WrongRole)
    ∷ (not (supported z i (s.cards i)), NothingDue)
    ∷ (not (opens_epoch (s.cards i)) && (length (due_entries (s.cards i) (s.logs i)) == 0), NothingDue)
    ∷ []

module _ {S : Type 0} (apply : ℕ → Words → S → S) where
  -- each item's queue and payload, in turn
  abbrev pub applied : List EntryFields → S → S
  applied [] m = m
  applied (e ∷ es) m = applied es (apply e.queue e.payload m)

  abbrev pub committed : ℕ → State S → State S
  committed i s =
      with_card i (committed_to (due_entries (s.cards i) (s.logs i)) (s.cards i))
      (with_machine i (applied (due_entries (s.cards i) (s.logs i)) (s.machines i)) s)

  abbrev pub commit : Sizes → ℕ → State S → Reply × State S
  commit z i s = ask (commit_checks z i s) (Count (length (due_entries (s.cards i) (s.logs i)))) (committed i s) s

-- reading: the entries of a card's log at or below committed
abbrev pub reading : {S : Type 0} → State S → ℕ → List EntryFields
reading s i = filter (λ (e : EntryFields). header_up_to e.header (s.cards i).committed) (s.logs i)
