-- What the verdict on the front of a lane says of take.
use Rattle.std.proofs.Common.{◌≡◌, ℕ, ◌+◌, Bool, true, false, cond, not, ◌&&◌, eqb, ltb, List, length, drop, Ok, Err, Result, sym, refl, ap, ◌∙◌, arith}
use Rattle.refusals.specs.declared.Refusal.TheVariants.{OutOfTurn, LogFull}
use Rattle.std.proofs.lemmas.List.{drop-map}
use Rattle.backplane.specs.Lanes.{Lanes, LanesOf, with_lane}
use Rattle.frames.specs.Views.{frame_fields}
use Rattle.cards.specs.LaneViews.{lane_fields}
use Rattle.cards.proofs.LaneViews.{fields_with}
use Rattle.marks.specs.Kinds.{Epoch, Header}
use Rattle.marks.specs.Order.{epoch_below, epoch_same}
use Rattle.frames.specs.Fields.{EntryFields, FrameFields, fields_of, header_of, epoch_of}
use Rattle.protocol.specs.Rack.{Reply, at_lane}
use Rattle.protocol.specs.Taking.{front, front_size, is_message, too_low, in_turn, log_after, taken_by}
use Rattle.protocol.specs.declared.answer.Answer.TheVariants.{Took}
use Rattle.protocol.specs.declared.answer.Intake.{Intake}
use Rattle.protocol.specs.declared.answer.Intake.TheVariants.{PassedOver, Appended, Installed}
use Rattle.protocol.specs.declared.card.Card.{Card}
use Rattle.cards.specs.Faults.{card_refusal}
use Rattle.cards.specs.declared.fault.CardFault.{CardFault}
use Rattle.cards.specs.declared.fault.CardFault.TheVariants as card
use Rattle.taking.specs.Parts.{Held, front_gone, take_front}
use Rattle.taking.specs.Verdicts.{unless_full, verdict_on}
use Rattle.taking.specs.declared.verdict.Verdict.{Verdict}
use Rattle.taking.specs.declared.verdict.Verdict.TheVariants.{Pass, Enter}

-- the verdict and the answer, by what they depend on
abbrev verdict_by : Bool → Bool → Bool → Result Verdict CardFault
verdict_by low turn full = cond low (Ok Pass) (cond turn (unless_full full) (Err card.OutOfTurn))

abbrev take_by : Bool → Bool → Bool → Intake → Held → Held → Held → Reply × Held
take_by low turn full intake passed entered before =
    cond (not low && not turn) (Err OutOfTurn, before)
    (cond (not low && full) (Err LogFull, before)
    (Ok (Took (cond low PassedOver intake)), cond low passed entered))

pass_by : (low turn full : Bool) (intake : Intake) (passed entered before : Held) → Ok Pass ≡ verdict_by low turn full → (Ok (Took PassedOver), passed) ≡ take_by low turn full intake passed entered before
pass_by true turn full intake passed entered before e = refl
pass_by false true true intake passed entered before e = let z : ◌≡◌ {A = ℕ} 0 1 = cc in absurd (omega arith)
pass_by false true false intake passed entered before e = let z : ◌≡◌ {A = ℕ} 0 1 = cc in absurd (omega arith)
pass_by false false full intake passed entered before e = let z : ◌≡◌ {A = ℕ} 0 1 = cc in absurd (omega arith)

enter_by : (low turn full : Bool) (intake : Intake) (passed entered before : Held) → Ok Enter ≡ verdict_by low turn full → (full ≡ false) × ((Ok (Took intake), entered) ≡ take_by low turn full intake passed entered before)
enter_by true turn full intake passed entered before e = let z : ◌≡◌ {A = ℕ} 0 1 = cc in absurd (omega arith)
enter_by false true true intake passed entered before e = let z : ◌≡◌ {A = ℕ} 0 1 = cc in absurd (omega arith)
enter_by false true false intake passed entered before e = (refl, refl)
enter_by false false full intake passed entered before e = let z : ◌≡◌ {A = ℕ} 0 1 = cc in absurd (omega arith)

back_by : (low turn full : Bool) (intake : Intake) (passed entered before : Held) (fault : CardFault) → Err fault ≡ verdict_by low turn full → (Err (card_refusal fault), before) ≡ take_by low turn full intake passed entered before
back_by true turn full intake passed entered before fault e = let z : ◌≡◌ {A = ℕ} 0 1 = cc in absurd (omega arith)
back_by false true true intake passed entered before fault e = let same : fault ≡ card.LogFull = cc in λ k. (Err (card_refusal (same k)), before)
back_by false true false intake passed entered before fault e = let z : ◌≡◌ {A = ℕ} 0 1 = cc in absurd (omega arith)
back_by false false full intake passed entered before fault e = let same : fault ≡ card.OutOfTurn = cc in λ k. (Err (card_refusal (same k)), before)

-- a verdict goes by whether it is on a message, and by the header
abbrev judged : Card → Bool → Header → Bool → Result Verdict CardFault
judged c message h full = verdict_by (epoch_below (h.0, h.1) c.newest) (cond message (epoch_same (h.0, h.1) c.current && (epoch_same (h.0, h.1) c.newest && eqb h.2 (c.accepted.2 + 1))) (not (epoch_same (h.0, h.1) c.current))) full

module _ (c : Card) (f : FrameFields) (full full' : Bool) (same : full ≡ full') where
  pub message_judged : (h : Header) → is_message f ≡ true → h ≡ header_of f → verdict_on c (fields_of 1 h (0, 0, 0, 0)) full ≡ verdict_on c f full'
  message_judged h message header = λ k. judged c (sym message k) (header k) (same k)

  pub diff_judged : (e : Epoch) → is_message f ≡ false → e ≡ epoch_of f → verdict_on c (fields_of 2 (e.0, e.1, 0) (0, 0, 0, 0)) full ≡ verdict_on c f full'
  diff_judged e message epoch = λ k. judged c (sym message k) ((epoch k).0, (epoch k).1, f.count) (same k)

module _ (places i j l : ℕ) (c : Card) (log : List EntryFields) (lanes : LanesOf FrameFields) where
  abbrev over : Bool
  over = ltb places (length (log_after (lanes j i l) log))

  abbrev entered : Held
  entered = (taken_by c (front (lanes j i l)), log_after (lanes j i l) log, front_gone i j l lanes)

  pub take_passes : Ok Pass ≡ verdict_on c (front (lanes j i l)) (ltb places (length (log_after (lanes j i l) log))) → (Ok (Took PassedOver), (c, log, front_gone i j l lanes)) ≡ take_front places i j l (c, log, lanes)
  take_passes e = pass_by (too_low c (front (lanes j i l))) (in_turn c (front (lanes j i l))) over (cond (is_message (front (lanes j i l))) Appended Installed) (c, log, front_gone i j l lanes) entered (c, log, lanes) e

  pub take_enters : Ok Enter ≡ verdict_on c (front (lanes j i l)) (ltb places (length (log_after (lanes j i l) log))) → (ltb places (length (log_after (lanes j i l) log)) ≡ false) × ((Ok (Took (cond (is_message (front (lanes j i l))) Appended Installed)), (taken_by c (front (lanes j i l)), log_after (lanes j i l) log, front_gone i j l lanes)) ≡ take_front places i j l (c, log, lanes))
  take_enters e = enter_by (too_low c (front (lanes j i l))) (in_turn c (front (lanes j i l))) over (cond (is_message (front (lanes j i l))) Appended Installed) (c, log, front_gone i j l lanes) entered (c, log, lanes) e

  pub take_goes_back : (fault : CardFault) → Err fault ≡ verdict_on c (front (lanes j i l)) (ltb places (length (log_after (lanes j i l) log))) → (Err (card_refusal fault), (c, log, lanes)) ≡ take_front places i j l (c, log, lanes)
  take_goes_back fault e = back_by (too_low c (front (lanes j i l))) (in_turn c (front (lanes j i l))) over (cond (is_message (front (lanes j i l))) Appended Installed) (c, log, front_gone i j l lanes) entered (c, log, lanes) fault e

-- frames dropped from the peer's lane, as many as its front has
pub lanes_gone : (i j l k : ℕ) (L L' : Lanes) → L' ≡ with_lane L j i l (drop k (L j i l)) → k ≡ front_size (lane_fields L j i l) → lane_fields L' ≡ front_gone i j l (lane_fields L)
lanes_gone i j l k L L' dropped size =
    ap lane_fields dropped
    ∙ fields_with L j i l (drop k (L j i l))
    ∙ ap (λ frames. at_lane j i l frames (lane_fields L)) (sym (drop-map frame_fields k (L j i l)) ∙ ap (λ n. drop n (lane_fields L j i l)) size)
