-- push and look, from their parts on one card and the lanes.
use Rattle.std.proofs.Common.{◌≡◌, ℕ, ◌-◌, Bool, true, false, cond, not, ◌&&◌, eqb, leb, List, [], ◌∷◌, ◌++◌, length, drop, Err, sym, ap, ◌∙◌}
use Rattle.std.proofs.lemmas.Bool.{eqb-true, not-false}
use Rattle.refusals.specs.declared.Refusal.{Refusal}
use Rattle.refusals.specs.declared.Refusal.TheVariants.{NoSuchCard, OutOfRange, Stopped, NothingDue, Malformed, LaneFull}
use Rattle.marks.specs.Kinds.{epoch_of}
use Rattle.marks.specs.Order.{epoch_same}
use Rattle.backplane.specs.Lanes.{Lanes, LanesOf, is_lane}
use Rattle.frames.specs.declared.entry.Entry.{Entry}
use Rattle.frames.specs.Fields.{FrameFields, is_frame}
use Rattle.protocol.specs.Rack.{State, Reply, ask, at_lane, with_card, is_row_kind}
use Rattle.protocol.specs.Booking.{with_peers}
use Rattle.protocol.specs.Taking.{front}
use Rattle.protocol.specs.Exchange.{own_row, stored, push, pushed, look, looked}
use Rattle.protocol.specs.declared.answer.Answer.TheVariants.{Done}
use Rattle.protocol.specs.declared.card.Card.{Card}
use Rattle.protocol.proofs.Asked.{Passed, ask_keeps, ask_omit, ask_lifts}
use Rattle.cards.specs.LaneViews.{lane_fields}
use Rattle.cards.specs.Sizes.{card_count}
use Rattle.exchange.specs.Parts.{push_part, look_part}
use Rattle.rack.specs.Sound.{sound_card}
use Rattle.rack.specs.View.{view, sizes}
use Rattle.rack.specs.declared.seat.Seat.{Seat}
use Rattle.rack.specs.declared.state.Rack.{Rack}
use Rattle.rack.proofs.Sounds.{sound_stored}
use Rattle.rack.proofs.Frames.{framed_own}
use Rattle.rack.proofs.Views.{at_same, own_card}
use Rattle.rack.proofs.Peers.{Pair, lane_is, apart_back, row_lane, front_frame}

-- the state with other lanes, and with another card too
abbrev pub with_lanes : {S : Type 0} → LanesOf FrameFields → State S → State S
with_lanes lanes s = record { cards = s.cards; logs = s.logs; tally = s.tally; machines = s.machines; lanes = lanes }

abbrev pub with_both : {S : Type 0} → ℕ → Card × LanesOf FrameFields → State S → State S
with_both i p s = with_card i p.0 (with_lanes p.1 s)

pub both_same : {S : Type 0} (i : ℕ) (s : State S) → with_both i (s.cards i, s.lanes) s ≡ s
both_same i s = λ k. record { cards = at_same i s.cards k; logs = s.logs; tally = s.tally; machines = s.machines; lanes = s.lanes }

module _ {S : Type 0} (r : Rack) (i j kind room : ℕ) (entries : List Entry) (ms : ℕ → S) (lanes : Lanes) (seat : Seat) (pair : Pair r i j seat) where
  abbrev s : State S
  s = view r entries ms lanes

  abbrev own : Card
  own = s.cards i

  abbrev n : ℕ
  n = card_count r.size

  sound : sound_card own ≡ true
  sound = ap sound_card (own_card r i entries ms lanes pair.card) ∙ r.sound (i - 1)

  copied : seat.card ≡ own
  copied = pair.found.card ∙ sym (own_card r i entries ms lanes pair.card)

  abbrev undue : Bool
  undue = eqb kind 6 && not (epoch_same (epoch_of own.committed) own.current)

  abbrev mine : LanesOf FrameFields → List (Bool × Refusal)
  mine L = (leb room (length (L i j kind)), LaneFull) ∷ []

  abbrev first : List (Bool × Refusal)
  first = (own.stopped, Stopped) ∷ (undue, NothingDue) ∷ []

  abbrev theirs : List (Bool × Refusal)
  theirs = (own.stopped, Stopped) ∷ (eqb (length (s.lanes j i kind)) 0, NothingDue) ∷ (not (eqb (front (s.lanes j i kind)).kind kind), Malformed) ∷ []

  -- a row kind that is none
  pub push_kind : is_row_kind kind ≡ false → (Err OutOfRange, s) ≡ push (sizes r room) i j kind s
  push_kind other = sym (ap (λ b. cond b (Err NoSuchCard, s) (cond (not (is_row_kind kind)) (Err OutOfRange, s) rest)) pair.here ∙ ap (λ b. cond (not b) (Err OutOfRange, s) rest) other)
    where
      rest : Reply × State S
      rest = ask (first ++ mine s.lanes) Done (pushed i j kind s) s

  pub look_kind : is_row_kind kind ≡ false → (Err OutOfRange, s) ≡ look (sizes r room) i j kind s
  look_kind other = sym (ap (λ b. cond b (Err NoSuchCard, s) (cond (not (is_row_kind kind)) (Err OutOfRange, s) rest)) pair.here ∙ ap (λ b. cond (not b) (Err OutOfRange, s) rest) other)
    where
      rest : Reply × State S
      rest = ask theirs Done (looked i j kind s) s

  module _ (is : is_row_kind kind ≡ true) (count : ℕ) (wide : count ≡ n) where
    lane : is_lane count i j kind ≡ true
    lane = ap (λ m. is_lane m i j kind) wide ∙ lane_is n i j kind pair.card pair.peer pair.apart (row_lane kind is)

    back : is_lane count j i kind ≡ true
    back = ap (λ m. is_lane m j i kind) wide ∙ lane_is n j i kind pair.peer pair.card (apart_back i j pair.apart) (row_lane kind is)

    abbrev push_checks : List (Bool × Refusal)
    push_checks = first ++ ((not (is_frame (own_row own kind)), Malformed) ∷ (not (is_lane count i j kind), NoSuchCard) ∷ mine s.lanes)

    push_rack : ask push_checks Done (pushed i j kind s) s ≡ push (sizes r room) i j kind s
    push_rack =
        ask_omit first ((not (is_lane count i j kind), NoSuchCard) ∷ mine s.lanes) (not (is_frame (own_row own kind))) Malformed Done (pushed i j kind s) s (λ _. ap not (framed_own own kind sound is))
        ∙ ask_omit first (mine s.lanes) (not (is_lane count i j kind)) NoSuchCard Done (pushed i j kind s) s (λ _. ap not lane)
        ∙ sym (ap (λ b. cond b (Err NoSuchCard, s) (cond (not (is_row_kind kind)) (Err OutOfRange, s) (ask (first ++ mine s.lanes) Done (pushed i j kind s) s))) pair.here ∙ ap (λ b. cond (not b) (Err OutOfRange, s) (ask (first ++ mine s.lanes) Done (pushed i j kind s) s)) is)

    -- refused or not, push leaves the rack and moves the lanes
    pub push_done : (reply : Reply) (lanes' : Lanes) → (reply, lane_fields lanes') ≡ push_part count room i j kind seat.card (lane_fields lanes) → (reply, view r entries ms lanes') ≡ push (sizes r room) i j kind s
    push_done reply lanes' e =
        ask_lifts (λ L. with_lanes L s) push_checks Done (at_lane i j kind (s.lanes i j kind ++ own_row own kind ∷ []) s.lanes) s.lanes (lane_fields lanes') reply (e ∙ ap (λ c. push_part count room i j kind c (lane_fields lanes)) copied)
        ∙ push_rack

    abbrev Part : Type 0
    Part = Card × LanesOf FrameFields

    abbrev look_checks : List (Bool × Refusal)
    look_checks = (own.stopped, Stopped) ∷ (not (is_lane count j i kind), NoSuchCard) ∷ (eqb (length (s.lanes j i kind)) 0, NothingDue) ∷ (not (eqb (front (s.lanes j i kind)).kind kind), Malformed) ∷ []

    abbrev before : Part
    before = (own, s.lanes)

    abbrev after : Part
    after = (with_peers (stored own.peers j (front (s.lanes j i kind))) own, at_lane j i kind (drop 1 (s.lanes j i kind)) s.lanes)

    look_rack : ask look_checks Done (looked i j kind s) s ≡ look (sizes r room) i j kind s
    look_rack =
        ask_omit ((own.stopped, Stopped) ∷ []) ((eqb (length (s.lanes j i kind)) 0, NothingDue) ∷ (not (eqb (front (s.lanes j i kind)).kind kind), Malformed) ∷ []) (not (is_lane count j i kind)) NoSuchCard Done (looked i j kind s) s (λ _. ap not back)
        ∙ sym (ap (λ b. cond b (Err NoSuchCard, s) (cond (not (is_row_kind kind)) (Err OutOfRange, s) (ask theirs Done (looked i j kind s) s))) pair.here ∙ ap (λ b. cond (not b) (Err OutOfRange, s) (ask theirs Done (looked i j kind s) s)) is)

    look_part_lem : look_part count i j kind (seat.card, lane_fields lanes) ≡ look_part count i j kind before
    look_part_lem = ap (λ c. look_part count i j kind (c, lane_fields lanes)) copied

    -- refused or not, look leaves the rack with the card that its part leaves
    pub look_done : (reply : Reply) (c : Card) (lanes' : Lanes) → (reply, (c, lane_fields lanes')) ≡ look_part count i j kind (seat.card, lane_fields lanes) → (reply, with_card i c (view r entries ms lanes')) ≡ look (sizes r room) i j kind s
    look_done reply c lanes' e =
        ask_lifts (λ p. with_both i p s) look_checks Done after before (c, lane_fields lanes') reply (e ∙ look_part_lem)
        ∙ (λ k. ask look_checks Done (looked i j kind s) (both_same i s k))
        ∙ look_rack

    pub look_sound : (reply : Reply) (c : Card) (lanes' : Lanes) → (reply, (c, lane_fields lanes')) ≡ look_part count i j kind (seat.card, lane_fields lanes) → sound_card c ≡ true
    look_sound reply c lanes' e =
        ap (λ (t : Reply × Part). sound_card t.1.0) (e ∙ look_part_lem)
        ∙ ask_keeps (λ (p : Part). sound_card p.0 ≡ true) look_checks Done after before sound looks
      where
        looks : Passed look_checks → sound_card after.0 ≡ true
        looks p =
            let f = front (s.lanes j i kind) in
            let same = eqb-true f.kind kind (not-false (eqb f.kind kind) p.1.1.1.0) in
            sound_stored own j f sound (front_frame (lanes j i kind) p.1.1.0) (ap is_row_kind same ∙ is)
