-- take: the first message or whole diff of a peer's lane 0.
use Rattle.std.specs.Prelude.{ℕ, ◌+◌, Bool, true, cond, not, ◌&&◌, ◌||◌, List, [], ◌∷◌, ◌++◌, map, length, take, drop, filter, ◌==◌, nat_lt}
use Rattle.refusals.specs.declared.Refusal.{Refusal}
use Rattle.refusals.specs.declared.Refusal.TheVariants.{NoSuchCard, Stopped, NothingDue, Malformed, OutOfTurn, LogFull}
use Rattle.marks.specs.Kinds.{Epoch, Header}
use Rattle.marks.specs.Order.{epoch_below, epoch_same, header_below, header_up_to}
use Rattle.frames.specs.Fields.{EntryFields, FrameFields, header_of, epoch_of, words_header}
use Rattle.frames.specs.Carried.{entry_of}
use Rattle.protocol.specs.Rack.{Sizes, State, Reply, with_card, with_log, with_lane, ask, no_peer}
use Rattle.protocol.specs.Booking.{accepted_up_to}
use Rattle.protocol.specs.declared.answer.Answer.{Answer}
use Rattle.protocol.specs.declared.answer.Answer.TheVariants.{Took}
use Rattle.protocol.specs.declared.answer.Intake.TheVariants.{PassedOver, Appended, Installed}
use Rattle.protocol.specs.declared.card.Card.{Card}
use Rattle.protocol.specs.declared.card.Role.TheVariants.{Follower}

-- the frame in front, blank where none waits
abbrev pub blank_frame : FrameFields
blank_frame = record { kind = 0; round = 0; leader = 0; count = 0; w1 = 0; w2 = 0; w3 = 0; w4 = 0 }

abbrev pub front : List FrameFields → FrameFields
front [] = blank_frame
front (f ∷ _) = f

abbrev pub is_message : FrameFields → Bool
is_message f = f.kind == 1

abbrev pub is_diff : FrameFields → Bool
is_diff f = f.kind == 2

-- the frames behind a diff head that it says are its entries
abbrev pub body_of : List FrameFields → List FrameFields
body_of lane = take (front lane).w4 (drop 1 lane)

-- how many frames the message or diff in front has
abbrev pub front_size : List FrameFields → ℕ
front_size lane = cond (is_diff (front lane)) ((front lane).w4 + 1) 1

-- diff entries with headers that rise, above low and below high
abbrev pub rising_between : Header → Header → List FrameFields → Bool
rising_between low high [] = true
rising_between low high (f ∷ fs) = f.kind == 3 && (header_below low (header_of f) && (header_below (header_of f) high && rising_between (header_of f) high fs))

-- a diff has all its entries waiting, rising between its base and (epoch, 0)
abbrev pub whole_diff : List FrameFields → Bool
whole_diff lane =
    (length (body_of lane) == (front lane).w4)
    && rising_between (words_header (front lane)) ((front lane).round, (front lane).leader, 0) (body_of lane)

-- a message or a whole diff, from the leader of its epoch
abbrev pub formed : ℕ → List FrameFields → Bool
formed peer lane = (is_message (front lane) || (is_diff (front lane) && whole_diff lane)) && (front lane).leader == peer

-- passed over: an epoch below the card's newest epoch
abbrev pub too_low : Card → FrameFields → Bool
too_low c f = epoch_below (epoch_of f) c.newest

-- a message of the current epoch, which is the newest one too, with accepted's count + 1
abbrev pub follows : Card → FrameFields → Bool
follows c f = epoch_same (epoch_of f) c.current && (epoch_same (epoch_of f) c.newest && f.count == c.accepted.2 + 1)

-- a message that follows, or a diff of an epoch other than the current one
abbrev pub in_turn : Card → FrameFields → Bool
in_turn c f = cond (is_message f) (follows c f) (not (epoch_same (epoch_of f) c.current))

-- entries above the base go, those of the diff follow
abbrev pub kept_up_to : Header → List EntryFields → List EntryFields
kept_up_to base log = filter (λ (e : EntryFields). header_up_to e.header base) log

abbrev pub installed_log : Header → List EntryFields → List EntryFields → List EntryFields
installed_log base entries log = kept_up_to base log ++ entries

abbrev pub diff_log : List FrameFields → List EntryFields → List EntryFields
diff_log lane log = installed_log (words_header (front lane)) (map entry_of (body_of lane)) log

abbrev pub log_after : List FrameFields → List EntryFields → List EntryFields
log_after lane log = cond (is_message (front lane)) (log ++ entry_of (front lane) ∷ []) (diff_log lane log)

abbrev pub entered_by : Epoch → Card → Card
entered_by e c = record {
  role = Follower;
  stopped = c.stopped;
  current = e;
  newest = e;
  accepted = (e.0, e.1, 0);
  committed = c.committed;
  next = (e.0, e.1, 0);
  vote = c.vote;
  peers = c.peers;
}

abbrev pub taken_by : Card → FrameFields → Card
taken_by c f = cond (is_message f) (accepted_up_to (header_of f) c) (entered_by (epoch_of f) c)

abbrev pub take_checks : {S : Type 0} → Sizes → ℕ → ℕ → State S → List (Bool × Refusal)
take_checks z i j s =
    let lane = s.lanes j i 0 in
    let low = too_low (s.cards i) (front lane) in
    (no_peer z i j, NoSuchCard)
    ∷ ((s.cards i).stopped, Stopped)
    ∷ ((length lane == 0), NothingDue)
    ∷ (not (formed j lane), Malformed)
    ∷ (not low && not (in_turn (s.cards i) (front lane)), OutOfTurn)
    ∷ (not low && nat_lt z.places (length (log_after lane (s.logs i))), LogFull)
    ∷ []

abbrev pub take_answer : Card → FrameFields → Answer
take_answer c f = Took (cond (too_low c f) PassedOver (cond (is_message f) Appended Installed))

abbrev pub passed_over : {S : Type 0} → ℕ → ℕ → State S → State S
passed_over i j s = with_lane j i 0 (drop (front_size (s.lanes j i 0)) (s.lanes j i 0)) s

abbrev pub entered : {S : Type 0} → ℕ → ℕ → State S → State S
entered i j s =
    with_card i (taken_by (s.cards i) (front (s.lanes j i 0)))
    (with_log i (log_after (s.lanes j i 0) (s.logs i)) (passed_over i j s))

abbrev pub taken : {S : Type 0} → ℕ → ℕ → State S → State S
taken i j s = cond (too_low (s.cards i) (front (s.lanes j i 0))) (passed_over i j s) (entered i j s)

abbrev pub take_call : {S : Type 0} → Sizes → ℕ → ℕ → State S → Reply × State S
take_call z i j s = ask (take_checks z i j s) (take_answer (s.cards i) (front (s.lanes j i 0))) (taken i j s) s
