-- What take asks of its own card, its log and the lanes, and what it leaves of them: the card's part of the rack's definition.
use Rattle.std.specs.Prelude.{ℕ, Bool, cond, not, ◌&&◌, List, [], ◌∷◌, length, drop, ◌==◌, nat_lt}
use Rattle.refusals.specs.declared.Refusal.{Refusal}
use Rattle.refusals.specs.declared.Refusal.TheVariants.{NoSuchCard, Stopped, NothingDue, Malformed, OutOfTurn, LogFull}
use Rattle.backplane.specs.Lanes.{LanesOf, is_lane}
use Rattle.frames.specs.Fields.{EntryFields, FrameFields}
use Rattle.protocol.specs.Rack.{Reply, ask, at_lane}
use Rattle.protocol.specs.Taking.{front, front_size, formed, too_low, in_turn, log_after, taken_by, take_answer}
use Rattle.protocol.specs.declared.card.Card.{Card}

-- a card, its log, and what waits in the lanes
abbrev pub Held : Type 0
Held = Card × List EntryFields × LanesOf FrameFields

-- the lanes without what was in front of the lane l from the peer j
abbrev pub front_gone : ℕ → ℕ → ℕ → LanesOf FrameFields → LanesOf FrameFields
front_gone i j l lanes = at_lane j i l (drop (front_size (lanes j i l)) (lanes j i l)) lanes

-- what is too low is passed over, anything else enters the log
abbrev pub take_after : ℕ → ℕ → ℕ → Held → Held
take_after i j l (c, log, lanes) =
    cond (too_low c (front (lanes j i l))) (c, log, front_gone i j l lanes)
    (taken_by c (front (lanes j i l)), log_after (lanes j i l) log, front_gone i j l lanes)

-- what is asked of a message or whole diff in front; places is how many entries the log can hold
abbrev pub front_checks : ℕ → ℕ → ℕ → ℕ → Held → List (Bool × Refusal)
front_checks places i j l (c, log, lanes) =
    let low = too_low c (front (lanes j i l)) in
    (not low && not (in_turn c (front (lanes j i l))), OutOfTurn)
    ∷ (not low && nat_lt places (length (log_after (lanes j i l) log)), LogFull)
    ∷ []

abbrev pub take_front : ℕ → ℕ → ℕ → ℕ → Held → Reply × Held
take_front places i j l (c, log, lanes) = ask (front_checks places i j l (c, log, lanes)) (take_answer c (front (lanes j i l))) (take_after i j l (c, log, lanes)) (c, log, lanes)

abbrev pub part_checks : ℕ → ℕ → ℕ → ℕ → Held → List (Bool × Refusal)
part_checks n places i j (c, log, lanes) =
    (c.stopped, Stopped)
    ∷ (not (is_lane n j i 0), NoSuchCard)
    ∷ ((length (lanes j i 0) == 0), NothingDue)
    ∷ (not (formed j (lanes j i 0)), Malformed)
    ∷ front_checks places i j 0 (c, log, lanes)

-- card i, of n, takes from peer j over lane 0
abbrev pub take_part : ℕ → ℕ → ℕ → ℕ → Held → Reply × Held
take_part n places i j (c, log, lanes) = ask (part_checks n places i j (c, log, lanes)) (take_answer c (front (lanes j i 0))) (take_after i j 0 (c, log, lanes)) (c, log, lanes)
