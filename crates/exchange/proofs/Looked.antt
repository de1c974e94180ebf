-- look, from what the lane says.
use Rattle.std.proofs.Common.{◌≡◌, ℕ, suc, ◌≤◌, Bool, true, false, cond, not, eqb, List, [], ◌∷◌, ◌++◌, map, length, drop, Ok, Err, Result, sym, refl, ap, ◌∙◌, arith}
use Rattle.std.proofs.lemmas.List.{drop-map}
use Rattle.std.proofs.lemmas.Bool.{eq-eqb, ne_eqb}
use Rattle.std.specs.Option.{ok_or}
use Rattle.std.specs.List.{slice_get}
use Rattle.refusals.specs.declared.Refusal.{Refusal}
use Rattle.refusals.specs.declared.Refusal.TheVariants.{NoSuchCard, Stopped, NothingDue, Malformed}
use Rattle.frames.specs.Fields.{FrameFields}
use Rattle.frames.specs.Kinds.{kind_number}
use Rattle.frames.specs.Views.{frame_fields}
use Rattle.frames.specs.declared.frame.Frame.{Frame}
use Rattle.backplane.specs.Faults.{fault_refusal}
use Rattle.backplane.specs.Lanes.{LanesOf, Lanes, is_lane, frame_out, drop_out, drop_lanes}
use Rattle.backplane.specs.declared.fault.LaneFault.{LaneFault}
use Rattle.backplane.specs.declared.fault.LaneFault.TheVariants.{NoSuchLane, NothingThere}
use Rattle.backplane.proofs.LaneLaws.{drop_fits, drop_cuts}
use Rattle.protocol.specs.Rack.{ask, at_lane}
use Rattle.protocol.specs.Booking.{with_peers}
use Rattle.protocol.specs.Taking.{front}
use Rattle.protocol.specs.Exchange.{stored}
use Rattle.protocol.specs.declared.answer.Answer.TheVariants.{Done}
use Rattle.protocol.specs.declared.card.Card.{Card}
use Rattle.protocol.proofs.Asked.{Passed, ask_skip, ask_passed}
use Rattle.cards.specs.LaneViews.{lane_fields}
use Rattle.cards.proofs.LaneViews.{fields_with}
use Rattle.exchange.specs.Parts.{look_part}

abbrev front_by : Bool → List Frame → Result Frame LaneFault
front_by there xs = cond there (ok_or (slice_get xs 0) NothingThere) (Err NoSuchLane)

abbrev front_checks : Bool → List Frame → List (Bool × Refusal)
front_checks there xs = (not there, NoSuchCard) ∷ (eqb (length (map frame_fields xs)) 0, NothingDue) ∷ []

no_front : {A : Type 0} (there : Bool) (xs : List Frame) (more : List (Bool × Refusal)) (after before : A) (e : LaneFault) → Err e ≡ front_by there xs → (Err (fault_refusal e), before) ≡ ask (front_checks there xs ++ more) Done after before
no_front true [] more after before e h = let same : e ≡ NothingThere = cc in ap (λ (x : LaneFault). (Err (fault_refusal x), before)) same
no_front true (x ∷ xs) more after before e h = let z : ◌≡◌ {A = ℕ} 0 1 = cc in absurd (omega arith)
no_front false xs more after before e h = let same : e ≡ NoSuchLane = cc in ap (λ (x : LaneFault). (Err (fault_refusal x), before)) same

-- the frame that was read stands in front
pub record Front (there : Bool) (xs : List Frame) (f : Frame) : Type 0 where
  pub lane : there ≡ true
  pub some : 1 ≤ length xs
  pub passed : Passed (front_checks there xs)
  pub is : front (map frame_fields xs) ≡ frame_fields f

a_front : (there : Bool) (xs : List Frame) (f : Frame) → Ok f ≡ front_by there xs → Front there xs f
a_front true [] f h = let z : ◌≡◌ {A = ℕ} 0 1 = cc in absurd (omega arith)
a_front true (x ∷ xs) f h =
    let same : f ≡ x = cc in
    record { lane = refl; some = omega arith; passed = (refl, (ne_eqb (suc (length (map frame_fields xs))) 0 (λ z. omega arith), tt)); is = ap frame_fields (sym same) }
a_front false xs f h = let z : ◌≡◌ {A = ℕ} 0 1 = cc in absurd (omega arith)

module _ (n i j kind : ℕ) (c : Card) (L : Lanes) (running : c.stopped ≡ false) where
  abbrev State : Type 0
  State = Card × LanesOf FrameFields

  abbrev before : State
  before = (c, lane_fields L)

  abbrev after : State
  after = (with_peers (stored c.peers j (front (lane_fields L j i kind))) c, at_lane j i kind (drop 1 (lane_fields L j i kind)) (lane_fields L))

  abbrev kind_check : List (Bool × Refusal)
  kind_check = (not (eqb (front (lane_fields L j i kind)).kind kind), Malformed) ∷ []

  goes_on : ask (front_checks (is_lane n j i kind) (L j i kind) ++ kind_check) Done after before ≡ look_part n i j kind before
  goes_on = sym (ap (λ b. cond b (Err Stopped, before) (ask (front_checks (is_lane n j i kind) (L j i kind) ++ kind_check) Done after before)) running)

  pub look_refused : (e : LaneFault) → Err e ≡ frame_out n L j i kind 0 → (Err (fault_refusal e), before) ≡ look_part n i j kind before
  look_refused e h = no_front (is_lane n j i kind) (L j i kind) kind_check after before e h ∙ goes_on

  module _ (f : Frame) (read : Ok f ≡ frame_out n L j i kind 0) where
    at_front : Front (is_lane n j i kind) (L j i kind) f
    at_front = a_front (is_lane n j i kind) (L j i kind) f read

    front_kind : (front (lane_fields L j i kind)).kind ≡ kind_number f.kind
    front_kind = ap (λ (x : FrameFields). x.kind) at_front.is

    rest : ask kind_check Done after before ≡ look_part n i j kind before
    rest = sym (ask_skip (front_checks (is_lane n j i kind) (L j i kind)) kind_check Done after before at_front.passed) ∙ goes_on

    pub look_other : (kind_number f.kind ≡ kind → ⊥) → (Err Malformed, before) ≡ look_part n i j kind before
    look_other other =
        sym (ap (λ b. cond (not b) (Err Malformed, before) (Ok Done, after)) (ap (λ k. eqb k kind) front_kind ∙ ne_eqb (kind_number f.kind) kind other))
        ∙ rest

    -- the frame that was read can be dropped
    pub look_drops : (e : LaneFault) → Err e ≡ drop_out n L j i kind 1 → ⊥
    look_drops e h = apart (h ∙ drop_fits n L j i kind at_front.lane 1 at_front.some)
      where
        apart : ◌≡◌ {A = Result (Unit {0}) LaneFault} (Err e) (Ok tt) → ⊥
        apart q = let z : ◌≡◌ {A = ℕ} 0 1 = cc in omega arith

    pub look_done : (L' : Lanes) (c' : Card) → kind_number f.kind ≡ kind → L' ≡ drop_lanes n L j i kind 1 → c' ≡ with_peers (stored c.peers j (frame_fields f)) c → (Ok Done, (c', lane_fields L')) ≡ look_part n i j kind before
    look_done L' c' same left kept =
        (λ k. (Ok Done, (card k, lanes k)))
        ∙ sym (ask_passed kind_check Done after before (ap not (eq-eqb (front (lane_fields L j i kind)).kind kind (front_kind ∙ same)), tt))
        ∙ rest
      where
        card : c' ≡ with_peers (stored c.peers j (front (lane_fields L j i kind))) c
        card = kept ∙ ap (λ (x : FrameFields). with_peers (stored c.peers j x) c) (sym at_front.is)

        lanes : lane_fields L' ≡ at_lane j i kind (drop 1 (lane_fields L j i kind)) (lane_fields L)
        lanes =
            ap lane_fields (left ∙ drop_cuts n L j i kind at_front.lane 1 at_front.some)
            ∙ fields_with L j i kind (drop 1 (L j i kind))
            ∙ ap (λ (xs : List FrameFields). at_lane j i kind xs (lane_fields L)) (sym (drop-map frame_fields 1 (L j i kind)))
