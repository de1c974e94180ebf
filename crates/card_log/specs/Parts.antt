-- What submit and commit ask of one card and its log, and what they leave of them.
use Rattle.std.specs.Prelude.{ℕ, ◌+◌, Bool, cond, not, ◌&&◌, ◌||◌, List, [], ◌∷◌, ◌++◌, length, Ok, Err, Result, ◌==◌, nat_le}
use Rattle.refusals.specs.declared.Refusal.TheVariants.{Stopped, WrongRole, NothingDue, Malformed, LogFull, UsedUp}
use Rattle.marks.specs.Kinds.{Header}
use Rattle.frames.specs.Fields.{Words, EntryFields, is_entry_header}
use Rattle.protocol.specs.Rack.{Reply, ask, is_electing, is_leader}
use Rattle.protocol.specs.Booking.{place_after, booked, accepted_up_to}
use Rattle.protocol.specs.Committing.{supported, opens_epoch, due_entries, last_header, committed_to, applied}
use Rattle.protocol.specs.declared.answer.Answer.TheVariants.{Placed, Count}
use Rattle.protocol.specs.declared.card.Card.{Card}
use Rattle.logs.specs.declared.delivery.Delivered.{Delivered}
use Rattle.cards.specs.Parts.{of_cards}
use Rattle.cards.specs.declared.fault.CardFault.{CardFault}
use Rattle.cards.specs.declared.fault.CardFault.TheVariants as card
use Rattle.cards.specs.declared.size.RackSize.{RackSize}

-- a header that no entry has is refused as malformed; no sound card comes to it
abbrev pub is_booking : Header → ℕ → Bool
is_booking h queue = is_entry_header h && nat_le queue 15

-- of the places of the log, the queue and the payload: card, log and tally
abbrev pub submit_log : ℕ → ℕ → Words → Card × List EntryFields × ℕ → Reply × (Card × List EntryFields × ℕ)
submit_log places queue payload p =
    ask (
    (p.0.stopped, Stopped)
    ∷ (not (is_leader p.0.role), WrongRole)
    ∷ (nat_le places (length p.1), LogFull)
    ∷ (nat_le 4294967294 p.0.accepted.2 || nat_le 18446744073709551615 p.2, UsedUp)
    ∷ (not (is_booking (place_after p.0.accepted) queue), Malformed)
    ∷ [])
    (Placed (place_after p.0.accepted))
    (accepted_up_to (place_after p.0.accepted) p.0, p.1 ++ booked p.0 queue payload ∷ [], p.2 + 1)
    p

-- whether the entry at next is missing
abbrev pub is_missing : Card → List EntryFields → Bool
is_missing c log = not (opens_epoch c) && length (due_entries c log) == 0

-- how much is delivered, and the header of the last of it
abbrev pub delivery_of : Card → List EntryFields → Result Delivered CardFault
delivery_of c log = cond (is_missing c log) (Err card.NothingDue) (Ok (record { count = length (due_entries c log); last = last_header c.committed (due_entries c log) }))

module _ {S : Type 0} (apply : ℕ → Words → S → S) where
  abbrev pub machine_after : Card → List EntryFields → S → S
  machine_after c log m = cond (is_missing c log) m (applied apply (due_entries c log) m)

  -- of the rack's size, the card's number and its log: card and machine
  abbrev pub commit_log : RackSize → ℕ → List EntryFields → Card × S → Reply × (Card × S)
  commit_log n i log p =
      ask (
      (p.0.stopped, Stopped)
      ∷ (is_electing p.0.role, WrongRole)
      ∷ (not (supported (of_cards n) i p.0), NothingDue)
      ∷ (is_missing p.0 log, NothingDue)
      ∷ [])
      (Count (length (due_entries p.0 log)))
      (committed_to (due_entries p.0 log) p.0, applied apply (due_entries p.0 log) p.1)
      p
