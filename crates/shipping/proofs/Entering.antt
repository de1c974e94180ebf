-- What the tests of a lane say of frames that are to enter it.
use Rattle.std.proofs.Common.{◌≡◌, ℕ, ◌+◌, ◌≤◌, Bool, true, false, cond, not, eqb, ltb, List, length, Ok, Err, Result, sym, refl, ap, ◌∙◌, arith}
use Rattle.std.proofs.lemmas.List.{length-map}
use Rattle.std.proofs.lemmas.Bool.{ltb-false}
use Rattle.refusals.specs.declared.Refusal.TheVariants.{NoSuchCard, NothingDue, Malformed, LaneFull}
use Rattle.frames.specs.Fields.{FrameFields}
use Rattle.frames.specs.Views.{frame_fields}
use Rattle.backplane.specs.declared.fault.LaneFault.{LaneFault}
use Rattle.backplane.specs.declared.fault.LaneFault.TheVariants.{NoSuchLane, Full}
use Rattle.backplane.specs.Faults.{fault_refusal}
use Rattle.backplane.specs.Lanes.{Lanes, LanesOf, is_lane, room_out}
use Rattle.protocol.specs.Rack.{Reply}
use Rattle.protocol.specs.declared.answer.Answer.TheVariants.{Count}
use Rattle.cards.specs.LaneViews.{lane_fields}
use Rattle.shipping.specs.Lanes.{lanes_with}
use Rattle.shipping.specs.Shipping.{enter_part}

abbrev Left : Type 0
Left = Reply × LanesOf FrameFields

-- the four tests in turn
abbrev tested : Bool → Bool → Bool → Bool → Left → LanesOf FrameFields → Left
tested none malformed lane full after lanes =
    cond none (Err NothingDue, lanes)
    (cond malformed (Err Malformed, lanes)
    (cond (not lane) (Err NoSuchCard, lanes)
    (cond full (Err LaneFull, lanes) after)))

abbrev looked : Bool → Bool → Result (Unit {0}) LaneFault
looked lane full = cond lane (cond full (Err Full) (Ok tt)) (Err NoSuchLane)

look_refused : (after : Left) (lanes : LanesOf FrameFields) (lane full : Bool) (e : LaneFault) → Err e ≡ looked lane full → (Err (fault_refusal e), lanes) ≡ tested false false lane full after lanes
look_refused after lanes false full e h = let same : e ≡ NoSuchLane = cc in ap (λ x. (Err (fault_refusal x), lanes)) same
look_refused after lanes true true e h = let same : e ≡ Full = cc in ap (λ x. (Err (fault_refusal x), lanes)) same
look_refused after lanes true false e h = let z : ◌≡◌ {A = ℕ} 0 1 = cc in absurd (omega arith)

look_passed : (lane full : Bool) → Ok tt ≡ looked lane full → (lane ≡ true) × (full ≡ false)
look_passed true false h = (refl, refl)
look_passed true true h = let z : ◌≡◌ {A = ℕ} 0 1 = cc in absurd (omega arith)
look_passed false full h = let z : ◌≡◌ {A = ℕ} 0 1 = cc in absurd (omega arith)

pub room_there : (n room f t l waiting k : ℕ) → Ok tt ≡ room_out n room f t l waiting k → (is_lane n f t l ≡ true) × (waiting + k ≤ room)
room_there n room f t l waiting k h =
    let p = look_passed (is_lane n f t l) (ltb room (waiting + k)) h in
    (p.0, ltb-false room (waiting + k) p.1)

module _ (n room f t l : ℕ) (before : Lanes) (due : List FrameFields) where
  abbrev Entered : Bool → Left → Type 0
  Entered malformed left = left ≡ enter_part n room f t l malformed due (lane_fields before)

  abbrev after : Left
  after = (Ok (Count (length due)), lanes_with f t l due (lane_fields before))

  abbrev by : Bool → Bool → Bool → ℕ → Left
  by none malformed lane waiting = tested none malformed lane (ltb room waiting) after (lane_fields before)

  abbrev all : ℕ
  all = length (lane_fields before f t l) + length due

  pub enter_none : (malformed : Bool) → eqb (length due) 0 ≡ true → Entered malformed (Err NothingDue, lane_fields before)
  enter_none malformed none = sym (ap (λ x. by x malformed (is_lane n f t l) all) none)

  module _ (malformed : Bool) (some : eqb (length due) 0 ≡ false) where
    pub enter_malformed : malformed ≡ true → Entered malformed (Err Malformed, lane_fields before)
    enter_malformed bad = sym (ap (λ x. by x malformed (is_lane n f t l) all) some ∙ ap (λ x. by false x (is_lane n f t l) all) bad)

    -- the look at the lane decides the last two tests
    module _ (well : malformed ≡ false) (k : ℕ) (counted : k ≡ length due) where
      looked_by : by false false (is_lane n f t l) (length (before f t l) + k) ≡ enter_part n room f t l malformed due (lane_fields before)
      looked_by =
          let same : all ≡ length (before f t l) + k = omega (arith, length-map (before f t l) frame_fields, counted) in
          sym (ap (λ x. by x malformed (is_lane n f t l) all) some ∙ ap (λ x. by false x (is_lane n f t l) all) well ∙ ap (by false false (is_lane n f t l)) same)

      pub enter_refused : (e : LaneFault) → Err e ≡ room_out n room f t l (length (before f t l)) k → Entered malformed (Err (fault_refusal e), lane_fields before)
      enter_refused e h = look_refused after (lane_fields before) (is_lane n f t l) (ltb room (length (before f t l) + k)) e h ∙ looked_by

      pub enter_all : Ok tt ≡ room_out n room f t l (length (before f t l)) k → (lanes : LanesOf FrameFields) → lanes ≡ lanes_with f t l due (lane_fields before) → Entered malformed (Ok (Count k), lanes)
      enter_all h lanes sent =
          let full = ltb room (length (before f t l) + k) in
          let p = look_passed (is_lane n f t l) full h in
          (λ i. (Ok (Count (counted i)), sent i))
          ∙ sym (ap (λ b. tested false false b full after (lane_fields before)) p.0 ∙ ap (λ b. tested false false true b after (lane_fields before)) p.1)
          ∙ looked_by
