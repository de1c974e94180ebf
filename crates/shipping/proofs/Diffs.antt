-- A diff: its head, made or refused, and its frames on their way into the lane.
use Rattle.std.proofs.Common.{◌≡◌, ℕ, ◌+◌, ◌≤◌, Bool, true, false, cond, not, ◌||◌, eqb, leb, List, [], ◌∷◌, map, length, Ok, Err, Result, sym, refl, ap, ◌∙◌, arith}
use Rattle.std.proofs.lemmas.List.{length-map}
use Rattle.std.proofs.lemmas.Bool.{and_parts, leb-true, ne_eqb}
use Rattle.refusals.specs.declared.Refusal.{Refusal}
use Rattle.refusals.specs.declared.Refusal.TheVariants.{Malformed}
use Rattle.marks.specs.Kinds.{Epoch, Header, is_led_epoch, is_header}
use Rattle.frames.specs.declared.frame.Frame.{Frame}
use Rattle.frames.specs.Fields.{EntryFields, FrameFields, is_frame, carries_diff}
use Rattle.frames.specs.Made.{frame_if, frame_from}
use Rattle.frames.specs.Views.{frame_fields}
use Rattle.frames.proofs.Reading.{from_made}
use Rattle.backplane.specs.declared.fault.LaneFault.{LaneFault}
use Rattle.backplane.specs.Faults.{fault_refusal}
use Rattle.backplane.specs.Lanes.{Lanes, room_out}
use Rattle.frames.specs.Carried.{entry_frame, head_frame}
use Rattle.protocol.specs.Booking.{diff_entries, diff_frames}
use Rattle.protocol.specs.declared.answer.Answer.TheVariants.{Count}
use Rattle.cards.specs.Faults.{card_refusal}
use Rattle.cards.specs.LaneViews.{lane_fields}
use Rattle.cards.specs.Parts.{framed}
use Rattle.cards.specs.declared.fault.CardFault.{CardFault}
use Rattle.cards.specs.declared.fault.CardFault.TheVariants as card
use Rattle.shipping.specs.Lanes.{lanes_with}
use Rattle.shipping.specs.Shipping.{no_head, enter_part}
use Rattle.shipping.proofs.Sends.{with_more}
use Rattle.shipping.proofs.Entering.{enter_malformed, enter_refused, enter_all}

module _ (e : Epoch) (base : Header) (k : ℕ) where
  head_refused : (fault : CardFault) → Err fault ≡ framed (frame_from (head_frame e base k)) → (fault ≡ card.Malformed) × (is_frame (head_frame e base k) ≡ false)
  head_refused fault h = go (is_frame (head_frame e base k)) refl h
    where
      go : (b : Bool) (q : is_frame (head_frame e base k) ≡ b) → Err fault ≡ framed (cond b (frame_if (head_frame e base k) b q) (Err Malformed)) → (fault ≡ card.Malformed) × (b ≡ false)
      go true q h = let z : ◌≡◌ {A = ℕ} 0 1 = cc in absurd (omega arith)
      go false q h = (cc, refl)

  framed_made : (x : Frame) (r : Result Frame Refusal) → Ok x ≡ framed r → Ok x ≡ r
  framed_made x (Ok y) h = let same : x ≡ y = cc in ap Ok same
  framed_made x (Err r) h = let z : ◌≡◌ {A = ℕ} 0 1 = cc in absurd (omega arith)

  module _ (x : Frame) (h : Ok x ≡ framed (frame_from (head_frame e base k))) where
    head_fields : frame_fields x ≡ head_frame e base k
    head_fields = from_made (head_frame e base k) x (sym (framed_made x (frame_from (head_frame e base k)) h))

    head_well : is_frame (head_frame e base k) ≡ true
    head_well = sym (ap is_frame head_fields) ∙ x.well

    -- as many entries as a head can say
    pub head_few : k ≤ 1024
    head_few =
        let f = head_frame e base k in
        let well : carries_diff f ≡ true = one (carries_diff f) head_well in
        leb-true k 1024 (and_parts (is_header base) (leb k 1024) (and_parts true _ (and_parts (is_led_epoch e) _ well).1).1).1
      where
        one : (b : Bool) → (b || false) ≡ true → b ≡ true
        one true p = refl
        one false p = p

module _ (n room f t l : ℕ) (before : Lanes) (e : Epoch) (base : Header) (log : List EntryFields) (k : ℕ) (counted : k ≡ length (diff_entries e base log)) where
  abbrev entries : List FrameFields
  entries = map (entry_frame 3) (diff_entries e base log)

  abbrev due : List FrameFields
  due = diff_frames e base (diff_entries e base log)

  all : k + 1 ≡ length due
  all = omega (arith, counted, length-map (diff_entries e base log) (entry_frame 3))

  some : eqb (length due) 0 ≡ false
  some = ne_eqb (length due) 0 (λ none. omega (arith, none, all))

  pub diff_malformed : (fault : CardFault) → Err fault ≡ framed (frame_from (head_frame e base k)) → (Err (card_refusal fault), lane_fields before) ≡ enter_part n room f t l (no_head e base log) due (lane_fields before)
  diff_malformed fault h =
      let bad = head_refused e base k fault h in
      ap (λ x. (Err (card_refusal x), lane_fields before)) bad.0
      ∙ enter_malformed n room f t l before due (no_head e base log) some (ap (λ m. not (is_frame (head_frame e base m))) (sym counted) ∙ ap not bad.1)

  module _ (x : Frame) (made : Ok x ≡ framed (frame_from (head_frame e base k))) where
    well : no_head e base log ≡ false
    well = ap (λ m. not (is_frame (head_frame e base m))) (sym counted) ∙ ap not (head_well e base k x made)

    pub diff_refused : (fault : LaneFault) → Err fault ≡ room_out n room f t l (length (before f t l)) (k + 1) → (Err (fault_refusal fault), lane_fields before) ≡ enter_part n room f t l (no_head e base log) due (lane_fields before)
    diff_refused fault h = enter_refused n room f t l before due (no_head e base log) some well (k + 1) all fault h

    -- the head enters first, and the entries have room behind it
    module _ (fits : Ok tt ≡ room_out n room f t l (length (before f t l)) (k + 1)) (lanes : Lanes) (headed : lane_fields lanes ≡ lanes_with f t l (frame_fields x ∷ []) (lane_fields before)) where
      pub diff_sent : (after : Lanes) → lane_fields after ≡ lanes_with f t l entries (lane_fields lanes) → (Ok (Count (k + 1)), lane_fields after) ≡ enter_part n room f t l (no_head e base log) due (lane_fields before)
      diff_sent after rest =
          let first : frame_fields x ∷ entries ≡ due = ap (λ h. h ∷ entries) (head_fields e base k x made) ∙ ap (λ m. head_frame e base m ∷ entries) counted in
          enter_all n room f t l before due (no_head e base log) some well (k + 1) all fits (lane_fields after)
          (rest ∙ ap (lanes_with f t l entries) headed ∙ with_more f t l (frame_fields x ∷ []) entries (lane_fields before) ∙ ap (λ xs. lanes_with f t l xs (lane_fields before)) first)
