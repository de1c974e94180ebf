-- What push and look ask of one card and the lanes, and what they leave of them.
use Rattle.std.specs.Prelude.{ℕ, not, ◌&&◌, [], ◌∷◌, ◌++◌, length, drop, ◌==◌, nat_le}
use Rattle.refusals.specs.declared.Refusal.TheVariants.{NoSuchCard, Stopped, NothingDue, Malformed, LaneFull}
use Rattle.marks.specs.Kinds.{epoch_of}
use Rattle.marks.specs.Order.{epoch_same}
use Rattle.frames.specs.Fields.{FrameFields, is_frame}
use Rattle.backplane.specs.Lanes.{LanesOf, is_lane}
use Rattle.protocol.specs.Rack.{Reply, ask, at_lane}
use Rattle.protocol.specs.Booking.{with_peers}
use Rattle.protocol.specs.Taking.{front}
use Rattle.protocol.specs.Exchange.{own_row, stored}
use Rattle.protocol.specs.declared.answer.Answer.TheVariants.{Done}
use Rattle.protocol.specs.declared.card.Card.{Card}

-- of n cards and lanes with that room: card i sends its row to card j; a row that no frame carries is refused as malformed, and no sound card has one
abbrev pub push_part : ℕ → ℕ → ℕ → ℕ → ℕ → Card → LanesOf FrameFields → Reply × LanesOf FrameFields
push_part n room i j kind c lanes =
    ask (
    (c.stopped, Stopped)
    ∷ (kind == 6 && not (epoch_same (epoch_of c.committed) c.current), NothingDue)
    ∷ (not (is_frame (own_row c kind)), Malformed)
    ∷ (not (is_lane n i j kind), NoSuchCard)
    ∷ (nat_le room (length (lanes i j kind)), LaneFull)
    ∷ [])
    Done
    (at_lane i j kind (lanes i j kind ++ own_row c kind ∷ []) lanes)
    lanes

-- of n cards: card i takes the row in front of what waits from card j
abbrev pub look_part : ℕ → ℕ → ℕ → ℕ → Card × LanesOf FrameFields → Reply × (Card × LanesOf FrameFields)
look_part n i j kind p =
    ask (
    (p.0.stopped, Stopped)
    ∷ (not (is_lane n j i kind), NoSuchCard)
    ∷ ((length (p.1 j i kind) == 0), NothingDue)
    ∷ (not ((front (p.1 j i kind)).kind == kind), Malformed)
    ∷ [])
    Done
    (with_peers (stored p.0.peers j (front (p.1 j i kind))) p.0, at_lane j i kind (drop 1 (p.1 j i kind)) p.1)
    p
