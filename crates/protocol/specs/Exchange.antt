-- push, look and stop: rows between cards, and the end of a card.
use Rattle.std.specs.Prelude.{ℕ, Bool, true, cond, not, ◌&&◌, List, [], ◌∷◌, ◌++◌, length, drop, ◌==◌, nat_le}
use Rattle.refusals.specs.declared.Refusal.{Refusal}
use Rattle.refusals.specs.declared.Refusal.TheVariants.{NoSuchCard, OutOfRange, Stopped, NothingDue, Malformed, LaneFull}
use Rattle.marks.specs.Kinds.{Header}
use Rattle.marks.specs.Kinds as kinds
use Rattle.marks.specs.Order.{epoch_same}
use Rattle.frames.specs.Fields.{FrameFields, header_of, epoch_of, words_header}
use Rattle.frames.specs.Carried.{vote_frame}
use Rattle.protocol.specs.Rows.{store_accept, store_vote, store_commit}
use Rattle.protocol.specs.Rack.{Sizes, State, Reply, with_card, with_lane, ask, no_card, no_peer, is_row_kind}
use Rattle.protocol.specs.Booking.{with_peers}
use Rattle.protocol.specs.Taking.{front}
use Rattle.protocol.specs.declared.answer.Answer.TheVariants.{Done}
use Rattle.protocol.specs.declared.card.Card.{Card}
use Rattle.protocol.specs.declared.peers.PeerTable.{PeerTable}

-- an accept row and a commit row carry a header
abbrev pub header_frame : ℕ → Header → FrameFields
header_frame kind h = record { kind = kind; round = h.0; leader = h.1; count = h.2; w1 = 0; w2 = 0; w3 = 0; w4 = 0 }

-- a card's own rows are its accepted header, its vote and its committed header
abbrev pub own_row : Card → ℕ → FrameFields
own_row c kind = cond (kind == 5) (vote_frame c.vote) (header_frame kind (cond (kind == 4) c.accepted c.committed))

abbrev pub push_checks : {S : Type 0} → Sizes → ℕ → ℕ → ℕ → State S → List (Bool × Refusal)
push_checks z i j kind s =
    (no_peer z i j, NoSuchCard)
    ∷ (not (is_row_kind kind), OutOfRange)
    ∷ ((s.cards i).stopped, Stopped)
    ∷ (kind == 6 && not (epoch_same (kinds.epoch_of (s.cards i).committed) (s.cards i).current), NothingDue)
    ∷ (nat_le z.capacity (length (s.lanes i j kind)), LaneFull)
    ∷ []

abbrev pub pushed : {S : Type 0} → ℕ → ℕ → ℕ → State S → State S
pushed i j kind s = with_lane i j kind (s.lanes i j kind ++ own_row (s.cards i) kind ∷ []) s

abbrev pub push : {S : Type 0} → Sizes → ℕ → ℕ → ℕ → State S → Reply × State S
push z i j kind s = ask (push_checks z i j kind s) Done (pushed i j kind s) s

-- look stores what it reads in that peer's copy
abbrev pub stored : PeerTable → ℕ → FrameFields → PeerTable
stored table peer f =
    cond (f.kind == 4) (store_accept table peer (header_of f))
    (cond (f.kind == 5) (store_vote table peer (epoch_of f, words_header f))
    (store_commit table peer (header_of f)))

abbrev pub look_checks : {S : Type 0} → Sizes → ℕ → ℕ → ℕ → State S → List (Bool × Refusal)
look_checks z i j kind s =
    (no_peer z i j, NoSuchCard)
    ∷ (not (is_row_kind kind), OutOfRange)
    ∷ ((s.cards i).stopped, Stopped)
    ∷ ((length (s.lanes j i kind) == 0), NothingDue)
    ∷ (not ((front (s.lanes j i kind)).kind == kind), Malformed)
    ∷ []

abbrev pub looked : {S : Type 0} → ℕ → ℕ → ℕ → State S → State S
looked i j kind s =
    with_card i (with_peers (stored (s.cards i).peers j (front (s.lanes j i kind))) (s.cards i))
    (with_lane j i kind (drop 1 (s.lanes j i kind)) s)

abbrev pub look : {S : Type 0} → Sizes → ℕ → ℕ → ℕ → State S → Reply × State S
look z i j kind s = ask (look_checks z i j kind s) Done (looked i j kind s) s

abbrev pub stopped_card : Card → Card
stopped_card c = record {
  role = c.role;
  stopped = true;
  current = c.current;
  newest = c.newest;
  accepted = c.accepted;
  committed = c.committed;
  next = c.next;
  vote = c.vote;
  peers = c.peers;
}

abbrev pub stop_checks : {S : Type 0} → Sizes → ℕ → State S → List (Bool × Refusal)
stop_checks z i s = (no_card z i, NoSuchCard) ∷ ((s.cards i).stopped, Stopped) ∷ []

abbrev pub stop : {S : Type 0} → Sizes → ℕ → State S → Reply × State S
stop z i s = ask (stop_checks z i s) Done (with_card i (stopped_card (s.cards i)) s) s
