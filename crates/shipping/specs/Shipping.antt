-- ship, as far as it concerns the card that ships: its own marks, its log, and the lanes.
use Rattle.std.specs.Prelude.{ℕ, ◌+◌, Bool, false, not, List, [], ◌∷◌, length, Some, None, Option, ◌==◌, nat_lt}
use Rattle.refusals.specs.declared.Refusal.{Refusal}
use Rattle.refusals.specs.declared.Refusal.TheVariants.{NoSuchCard, Stopped, WrongRole, NothingDue, Malformed, LaneFull}
use Rattle.marks.specs.Kinds.{Epoch, Header}
use Rattle.frames.specs.Fields.{EntryFields, FrameFields, is_frame}
use Rattle.backplane.specs.Lanes.{LanesOf, is_lane}
use Rattle.frames.specs.Carried.{head_frame}
use Rattle.protocol.specs.Rows.{row_of, mark_shipped}
use Rattle.protocol.specs.Rack.{Reply, ask, is_leader}
use Rattle.protocol.specs.Booking.{diff_entries, shipment, shipped_after, with_peers}
use Rattle.protocol.specs.declared.answer.Answer.TheVariants.{Count}
use Rattle.protocol.specs.declared.card.Card.{Card}
use Rattle.shipping.specs.Lanes.{lanes_with}

-- the head of a diff that is no frame's (never so for a sound card); a message's frame is always one
abbrev pub no_head : Epoch → Header → List EntryFields → Bool
no_head e base log = not (is_frame (head_frame e base (length (diff_entries e base log))))

abbrev pub unshippable : Card → Header → Option ℕ → List EntryFields → Bool
unshippable c base None log = no_head c.current base log
unshippable c base (Some k) log = false

-- frames that are due enter a lane, all or none: n cards, and room for so many frames in a lane
module _ (n room f t l : ℕ) where
  abbrev pub due_checks : Bool → List FrameFields → LanesOf FrameFields → List (Bool × Refusal)
  due_checks malformed due lanes =
      ((length due == 0), NothingDue)
      ∷ (malformed, Malformed)
      ∷ (not (is_lane n f t l), NoSuchCard)
      ∷ (nat_lt room (length (lanes f t l) + length due), LaneFull)
      ∷ []

  abbrev pub enter_part : Bool → List FrameFields → LanesOf FrameFields → Reply × LanesOf FrameFields
  enter_part malformed due lanes = ask (due_checks malformed due lanes) (Count (length due)) (lanes_with f t l due lanes) lanes

-- card i ships to card j over lane 0
module _ (n room i j : ℕ) where
  -- what is due goes by what was shipped to j so far; it is marked as shipped
  abbrev pub ship_part : List EntryFields → Card × LanesOf FrameFields → Reply × (Card × LanesOf FrameFields)
  ship_part log (c, lanes) =
      let base = (row_of c.peers j).commit in
      let shipped = (row_of c.peers j).shipped in
      let due = shipment c base shipped log in
      ask ((c.stopped, Stopped) ∷ (not (is_leader c.role), WrongRole) ∷ due_checks n room i j 0 (unshippable c base shipped log) due lanes)
      (Count (length due))
      (with_peers (mark_shipped c.peers j (shipped_after shipped)) c, lanes_with i j 0 due lanes)
      (c, lanes)
