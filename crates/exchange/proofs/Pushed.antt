-- push, from what the own row and the lane say.
use Rattle.std.proofs.Common.{◌≡◌, ℕ, Bool, true, false, cond, not, ◌&&◌, eqb, leb, List, [], ◌∷◌, ◌++◌, length, Ok, Err, Result, sym, refl, ap, ◌∙◌, arith}
use Rattle.std.proofs.lemmas.List.{length-map, map-append}
use Rattle.std.proofs.lemmas.Bool.{leb-false}
use Rattle.refusals.specs.declared.Refusal.{Refusal}
use Rattle.refusals.specs.declared.Refusal.TheVariants.{NoSuchCard, Stopped, NothingDue, Malformed, LaneFull}
use Rattle.marks.specs.Kinds.{epoch_of}
use Rattle.marks.specs.Order.{epoch_same}
use Rattle.frames.specs.Fields.{FrameFields, is_frame}
use Rattle.frames.specs.Made.{frame_from}
use Rattle.frames.specs.Views.{frame_fields}
use Rattle.frames.specs.declared.frame.Frame.{Frame}
use Rattle.backplane.specs.Faults.{fault_refusal}
use Rattle.backplane.specs.Lanes.{LanesOf, Lanes, is_lane, send_out, send_lanes}
use Rattle.backplane.specs.declared.fault.LaneFault.{LaneFault}
use Rattle.backplane.specs.declared.fault.LaneFault.TheVariants.{NoSuchLane, Full}
use Rattle.backplane.proofs.LaneLaws.{send_adds, send_refused}
use Rattle.protocol.specs.Rack.{ask, at_lane}
use Rattle.protocol.specs.Exchange.{own_row}
use Rattle.protocol.specs.declared.answer.Answer.{Answer}
use Rattle.protocol.specs.declared.answer.Answer.TheVariants.{Done}
use Rattle.protocol.specs.declared.card.Card.{Card}
use Rattle.protocol.proofs.Asked.{Passed, ask_skip, ask_passed}
use Rattle.cards.specs.Faults.{card_refusal}
use Rattle.cards.specs.LaneViews.{lane_fields}
use Rattle.cards.specs.Parts.{framed, row_part}
use Rattle.cards.specs.declared.fault.CardFault.{CardFault}
use Rattle.cards.specs.declared.fault.CardFault.TheVariants as fault
use Rattle.cards.proofs.LaneViews.{fields_with}
use Rattle.exchange.specs.Parts.{push_part}
use Rattle.exchange.proofs.Framed.{row_made, row_refused}

-- the own row, by what is asked of the card
abbrev row_checks : Bool → Bool → FrameFields → List (Bool × Refusal)
row_checks stopped undue row = (stopped, Stopped) ∷ (undue, NothingDue) ∷ (not (is_frame row), Malformed) ∷ []

abbrev row_by : Bool → Bool → FrameFields → Result Frame CardFault
row_by stopped undue row = cond stopped (Err fault.Stopped) (cond undue (Err fault.NothingDue) (framed (frame_from row)))

no_row : {A : Type 0} (stopped undue : Bool) (row : FrameFields) (more : List (Bool × Refusal)) (answer : Answer) (after before : A) (e : CardFault) → Err e ≡ row_by stopped undue row → (Err (card_refusal e), before) ≡ ask (row_checks stopped undue row ++ more) answer after before
no_row true undue row more answer after before e h = let same : e ≡ fault.Stopped = cc in ap (λ (x : CardFault). (Err (card_refusal x), before)) same
no_row false true row more answer after before e h = let same : e ≡ fault.NothingDue = cc in ap (λ (x : CardFault). (Err (card_refusal x), before)) same
no_row false false row more answer after before e h =
    let no = row_refused row e h in
    ap (λ (x : CardFault). (Err (card_refusal x), before)) no.1
    ∙ sym (ap (λ b. cond (not b) (Err Malformed, before) (ask more answer after before)) no.0)

a_row : (stopped undue : Bool) (row : FrameFields) (f : Frame) → Ok f ≡ row_by stopped undue row → Passed (row_checks stopped undue row) × (frame_fields f ≡ row)
a_row true undue row f h = let z : ◌≡◌ {A = ℕ} 0 1 = cc in absurd (omega arith)
a_row false true row f h = let z : ◌≡◌ {A = ℕ} 0 1 = cc in absurd (omega arith)
a_row false false row f h = let is = row_made row f h in ((refl, (refl, (ap not is.0, tt))), is.1)

-- the lane, by whether it is there and whether it is full
unsent : {A : Type 0} (there full : Bool) (after before : A) (e : LaneFault) → ◌≡◌ {A = Result (Unit {0}) LaneFault} (Err e) (cond there (cond full (Err Full) (Ok tt)) (Err NoSuchLane)) → (Err (fault_refusal e), before) ≡ ask ((not there, NoSuchCard) ∷ (full, LaneFull) ∷ []) Done after before
unsent true true after before e h = let same : e ≡ Full = cc in ap (λ (x : LaneFault). (Err (fault_refusal x), before)) same
unsent true false after before e h = let z : ◌≡◌ {A = ℕ} 0 1 = cc in absurd (omega arith)
unsent false full after before e h = let same : e ≡ NoSuchLane = cc in ap (λ (x : LaneFault). (Err (fault_refusal x), before)) same

sent : (there full : Bool) → ◌≡◌ {A = Result (Unit {0}) LaneFault} (Ok tt) (cond there (cond full (Err Full) (Ok tt)) (Err NoSuchLane)) → (there ≡ true) × (full ≡ false)
sent true true h = let z : ◌≡◌ {A = ℕ} 0 1 = cc in absurd (omega arith)
sent true false h = (refl, refl)
sent false full h = let z : ◌≡◌ {A = ℕ} 0 1 = cc in absurd (omega arith)

module _ (n room i j kind : ℕ) (c : Card) (L : Lanes) where
  abbrev undue : Bool
  undue = eqb kind 6 && not (epoch_same (epoch_of c.committed) c.current)

  abbrev lane_checks : ℕ → List (Bool × Refusal)
  lane_checks waiting = (not (is_lane n i j kind), NoSuchCard) ∷ (leb room waiting, LaneFull) ∷ []

  abbrev after : LanesOf FrameFields
  after = at_lane i j kind (lane_fields L i j kind ++ own_row c kind ∷ []) (lane_fields L)

  pub push_refused : (e : CardFault) → Err e ≡ row_part kind c → (Err (card_refusal e), lane_fields L) ≡ push_part n room i j kind c (lane_fields L)
  push_refused e h = no_row c.stopped undue (own_row c kind) (lane_checks (length (lane_fields L i j kind))) Done after (lane_fields L) e h

  module _ (f : Frame) (row : Ok f ≡ row_part kind c) (L' : Lanes) (left : L' ≡ send_lanes n room L i j kind f) where
    made : Passed (row_checks c.stopped undue (own_row c kind)) × (frame_fields f ≡ own_row c kind)
    made = a_row c.stopped undue (own_row c kind) f row

    -- what is asked of the lane is left
    rest : ask (lane_checks (length (L i j kind))) Done after (lane_fields L) ≡ push_part n room i j kind c (lane_fields L)
    rest =
        ap (λ waiting. ask (lane_checks waiting) Done after (lane_fields L)) (sym (length-map (L i j kind) frame_fields))
        ∙ sym (ask_skip (row_checks c.stopped undue (own_row c kind)) (lane_checks (length (lane_fields L i j kind))) Done after (lane_fields L) made.0)

    pub push_unsent : (e : LaneFault) → Err e ≡ send_out n room L i j kind → (Err (fault_refusal e), lane_fields L') ≡ push_part n room i j kind c (lane_fields L)
    push_unsent e h =
        ap (λ (M : Lanes). (Err (fault_refusal e), lane_fields M)) (left ∙ send_refused n L i j kind room f e (sym h))
        ∙ unsent (is_lane n i j kind) (leb room (length (L i j kind))) after (lane_fields L) e h
        ∙ rest

    pub push_done : Ok tt ≡ send_out n room L i j kind → (Ok Done, lane_fields L') ≡ push_part n room i j kind c (lane_fields L)
    push_done h =
        let fits = sent (is_lane n i j kind) (leb room (length (L i j kind))) h in
        ap (λ (x : LanesOf FrameFields). (Ok Done, x)) sends
        ∙ sym (ask_passed (lane_checks (length (L i j kind))) Done after (lane_fields L) (ap not fits.0, (fits.1, tt)))
        ∙ rest
      where
        sends : lane_fields L' ≡ after
        sends =
            let fits = sent (is_lane n i j kind) (leb room (length (L i j kind))) h in
            ap lane_fields (left ∙ send_adds n L i j kind fits.0 room f (leb-false room (length (L i j kind)) fits.1))
            ∙ fields_with L i j kind (L i j kind ++ f ∷ [])
            ∙ ap (λ (xs : List FrameFields). at_lane i j kind xs (lane_fields L)) (map-append frame_fields (L i j kind) (f ∷ []) ∙ ap (λ (x : FrameFields). lane_fields L i j kind ++ x ∷ []) made.1)
