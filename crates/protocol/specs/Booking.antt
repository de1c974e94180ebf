-- submit and ship.
use Rattle.std.specs.Prelude.{ℕ, ◌+◌, Bool, cond, not, ◌&&◌, ◌||◌, List, [], ◌∷◌, ◌++◌, map, length, Some, None, filter, Option, ◌==◌, nat_le, nat_lt}
use Rattle.std.specs.Option.{option_or}
use Rattle.refusals.specs.declared.Refusal.{Refusal}
use Rattle.refusals.specs.declared.Refusal.TheVariants.{NoSuchCard, OutOfRange, Stopped, WrongRole, NothingDue, LogFull, LaneFull, UsedUp}
use Rattle.marks.specs.Kinds.{Epoch, Header}
use Rattle.marks.specs.Order.{header_below}
use Rattle.frames.specs.Fields.{Words, EntryFields, FrameFields}
use Rattle.frames.specs.Carried.{entry_frame, head_frame}
use Rattle.protocol.specs.Rows.{row_of, mark_shipped}
use Rattle.protocol.specs.Rack.{Sizes, State, Reply, with_card, with_log, with_tally, with_lane, ask, no_card, no_peer, is_leader}
use Rattle.protocol.specs.declared.answer.Answer.TheVariants.{Placed, Count}
use Rattle.protocol.specs.declared.card.Card.{Card}
use Rattle.protocol.specs.declared.peers.PeerTable.{PeerTable}

-- submit: accepted's count + 1
abbrev pub place_after : Header → Header
place_after h = (h.0, h.1, h.2 + 1)

abbrev pub booked : Card → ℕ → Words → EntryFields
booked c queue payload = record { header = place_after c.accepted; queue = queue; payload = payload }

abbrev pub accepted_up_to : Header → Card → Card
accepted_up_to h c = record {
  role = c.role;
  stopped = c.stopped;
  current = c.current;
  newest = c.newest;
  accepted = h;
  committed = c.committed;
  next = c.next;
  vote = c.vote;
  peers = c.peers;
}

abbrev pub submit_checks : {S : Type 0} → Sizes → ℕ → ℕ → State S → List (Bool × Refusal)
submit_checks z i queue s =
    (no_card z i, NoSuchCard)
    ∷ (nat_lt 15 queue, OutOfRange)
    ∷ ((s.cards i).stopped, Stopped)
    ∷ (not (is_leader (s.cards i).role), WrongRole)
    ∷ (nat_le z.places (length (s.logs i)), LogFull)
    ∷ (nat_le 4294967294 (s.cards i).accepted.2 || nat_le 18446744073709551615 s.tally, UsedUp)
    ∷ []

abbrev pub submitted : {S : Type 0} → ℕ → ℕ → Words → State S → State S
submitted i queue payload s =
    with_card i (accepted_up_to (place_after (s.cards i).accepted) (s.cards i))
    (with_log i (s.logs i ++ booked (s.cards i) queue payload ∷ []) (with_tally (s.tally + 1) s))

abbrev pub submit : {S : Type 0} → Sizes → ℕ → ℕ → Words → State S → Reply × State S
submit z i queue payload s = ask (submit_checks z i queue s) (Placed (place_after (s.cards i).accepted)) (submitted i queue payload s) s

abbrev pub is_header : Header → Header → Bool
is_header a b = a.0 == b.0 && (a.1 == b.1 && a.2 == b.2)

-- the entry with this header, looked for from the newest end
abbrev pub entry_at : Header → List EntryFields → Option EntryFields
entry_at h [] = None
entry_at h (e ∷ log) = option_or (entry_at h log) (cond (is_header e.header h) (Some e) None)

-- above low and below high
abbrev pub inside : Header → Header → EntryFields → Bool
inside low high e = header_below low e.header && header_below e.header high

-- a diff: its head, then every log entry above the base and below (epoch, 0)
abbrev pub diff_entries : Epoch → Header → List EntryFields → List EntryFields
diff_entries e base log = filter (inside base (e.0, e.1, 0)) log

abbrev pub diff_frames : Epoch → Header → List EntryFields → List FrameFields
diff_frames e base entries = head_frame e base (length entries) ∷ map (entry_frame 3) entries

abbrev pub message_frames : Option EntryFields → List FrameFields
message_frames None = []
message_frames (Some e) = entry_frame 1 e ∷ []

-- what is due to a peer: first the diff from the copy of its commit row, then the next message of the epoch
abbrev pub shipment : Card → Header → Option ℕ → List EntryFields → List FrameFields
shipment c base None log = diff_frames c.current base (diff_entries c.current base log)
shipment c base (Some k) log = message_frames (entry_at (c.current.0, c.current.1, k + 1) log)

abbrev pub shipped_after : Option ℕ → Option ℕ
shipped_after None = Some 0
shipped_after (Some k) = Some (k + 1)

abbrev pub shipment_to : {S : Type 0} → ℕ → ℕ → State S → List FrameFields
shipment_to i j s = shipment (s.cards i) (row_of (s.cards i).peers j).commit (row_of (s.cards i).peers j).shipped (s.logs i)

abbrev pub with_peers : PeerTable → Card → Card
with_peers table c = record {
  role = c.role;
  stopped = c.stopped;
  current = c.current;
  newest = c.newest;
  accepted = c.accepted;
  committed = c.committed;
  next = c.next;
  vote = c.vote;
  peers = table;
}

abbrev pub ship_checks : {S : Type 0} → Sizes → ℕ → ℕ → State S → List (Bool × Refusal)
ship_checks z i j s =
    (no_peer z i j, NoSuchCard)
    ∷ ((s.cards i).stopped, Stopped)
    ∷ (not (is_leader (s.cards i).role), WrongRole)
    ∷ ((length (shipment_to i j s) == 0), NothingDue)
    ∷ (nat_lt z.capacity (length (s.lanes i j 0) + length (shipment_to i j s)), LaneFull)
    ∷ []

abbrev pub shipped : {S : Type 0} → ℕ → ℕ → State S → State S
shipped i j s =
    with_card i (with_peers (mark_shipped (s.cards i).peers j (shipped_after (row_of (s.cards i).peers j).shipped)) (s.cards i))
    (with_lane i j 0 (s.lanes i j 0 ++ shipment_to i j s) s)

abbrev pub ship : {S : Type 0} → Sizes → ℕ → ℕ → State S → Reply × State S
ship z i j s = ask (ship_checks z i j s) (Count (length (shipment_to i j s))) (shipped i j s) s
