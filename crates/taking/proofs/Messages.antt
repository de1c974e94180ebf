-- A message in front of a peer's lane, and what take makes of it.
use Rattle.std.proofs.Common.{◌≡◌, ℕ, ◌+◌, ◌<◌, ◌≤◌, eqb, ltb, List, [], ◌∷◌, ◌++◌, length, drop, Ok, Err, sym, ap, ◌∙◌, ⊎_elim, arith}
use Rattle.std.proofs.lemmas.Bool.{eqb-true, eqb-false, ne_eqb, cases_lt, cond-true, cond-false}
use Rattle.std.proofs.lemmas.List.{length_push}
use Rattle.std.proofs.lemmas.Bool.Decides.{nat_tests}
use Rattle.backplane.specs.Lanes.{Lanes, with_lane}
use Rattle.frames.specs.Fields.{EntryFields, fields_of}
use Rattle.frames.specs.Views.{entry_fields}
use Rattle.frames.specs.declared.entry.Entry.{Entry}
use Rattle.protocol.specs.Booking.{accepted_up_to}
use Rattle.protocol.specs.Taking.{front, front_size, is_message, log_after, taken_by}
use Rattle.protocol.specs.declared.answer.Answer.TheVariants.{Took}
use Rattle.protocol.specs.declared.answer.Intake.TheVariants.{PassedOver, Appended, Installed}
use Rattle.protocol.specs.declared.card.Card.{Card}
use Rattle.cards.specs.Faults.{card_refusal}
use Rattle.cards.specs.LaneViews.{lane_fields}
use Rattle.cards.specs.declared.fault.CardFault.{CardFault}
use Rattle.logs.specs.Log.{log_of}
use Rattle.logs.proofs.Logs.{log_used}
use Rattle.taking.specs.Openings.{MessageFront}
use Rattle.taking.specs.Parts.{take_front}
use Rattle.taking.specs.Verdicts.{verdict_on}
use Rattle.taking.specs.declared.verdict.Verdict.TheVariants.{Pass, Enter}
use Rattle.taking.proofs.Turns.{message_judged, take_passes, take_enters, take_goes_back, lanes_gone}

module _ (i j l : ℕ) (L : Lanes) (entry : Entry) (stands : MessageFront j (lane_fields L j i l) entry) where
  one_frame : 1 ≡ front_size (lane_fields L j i l)
  one_frame = sym (cond-false _ _ _ (ne_eqb (front (lane_fields L j i l)).kind 2 (λ two. omega (arith, two, eqb-true (front (lane_fields L j i l)).kind 1 stands.message))))

  module _ (c : Card) (part : List Entry) (used : ℕ) (fit : used ≤ length part) where
    log_with : log_after (lane_fields L j i l) (log_of part used) ≡ log_of part used ++ entry_fields entry ∷ []
    log_with = cond-true _ _ _ stands.message ∙ ap (λ e. log_of part used ++ e ∷ []) (sym stands.entry)

    no_room : eqb used (length part) ≡ ltb (length part) (length (log_after (lane_fields L j i l) (log_of part used)))
    no_room = by (length (log_after (lane_fields L j i l) (log_of part used))) (ap length log_with ∙ length_push (log_of part used) (entry_fields entry) ∙ ap (λ k. k + 1) (log_used part used fit))
      where
        by : (k : ℕ) → k ≡ used + 1 → eqb used (length part) ≡ ltb (length part) k
        by k e = grind (arith, nat_tests)

    seen : verdict_on c (fields_of 1 entry.header (0, 0, 0, 0)) (eqb used (length part)) ≡ verdict_on c (front (lane_fields L j i l)) (ltb (length part) (length (log_after (lane_fields L j i l) (log_of part used))))
    seen = message_judged c (front (lane_fields L j i l)) _ _ no_room entry.header stands.message (ap (λ e. e.header) stands.entry)

    pub message_back : (fault : CardFault) → Err fault ≡ verdict_on c (fields_of 1 entry.header (0, 0, 0, 0)) (eqb used (length part)) → (Err (card_refusal fault), (c, log_of part used, lane_fields L)) ≡ take_front (length part) i j l (c, log_of part used, lane_fields L)
    message_back fault e = take_goes_back (length part) i j l c (log_of part used) (lane_fields L) fault (e ∙ seen)

    module _ (L' : Lanes) (dropped : L' ≡ with_lane L j i l (drop 1 (L j i l))) where
      pub message_passed : Ok Pass ≡ verdict_on c (fields_of 1 entry.header (0, 0, 0, 0)) (eqb used (length part)) → (Ok (Took PassedOver), (c, log_of part used, lane_fields L')) ≡ take_front (length part) i j l (c, log_of part used, lane_fields L)
      message_passed e =
          (λ k. (Ok (Took PassedOver), (c, log_of part used, lanes_gone i j l 1 L L' dropped one_frame k)))
          ∙ take_passes (length part) i j l c (log_of part used) (lane_fields L) (e ∙ seen)

      pub message_entered : (c' : Card) (log' : List EntryFields) → c' ≡ accepted_up_to entry.header c → log' ≡ log_of part used ++ entry_fields entry ∷ [] → Ok Enter ≡ verdict_on c (fields_of 1 entry.header (0, 0, 0, 0)) (eqb used (length part)) → (Ok (Took Appended), (c', log', lane_fields L')) ≡ take_front (length part) i j l (c, log_of part used, lane_fields L)
      message_entered c' log' accepted appended e =
          let header : accepted_up_to entry.header c ≡ taken_by c (front (lane_fields L j i l)) = ap (λ e. accepted_up_to e.header c) stands.entry ∙ sym (cond-true _ _ _ stands.message) in
          (λ k. (Ok (Took (sym (cond-true (is_message (front (lane_fields L j i l))) Appended Installed stands.message) k)), ((accepted ∙ header) k, (appended ∙ sym log_with) k, lanes_gone i j l 1 L L' dropped one_frame k)))
          ∙ (take_enters (length part) i j l c (log_of part used) (lane_fields L) (e ∙ seen)).1

    pub message_room : Ok Enter ≡ verdict_on c (fields_of 1 entry.header (0, 0, 0, 0)) (eqb used (length part)) → used < length part
    message_room e =
        let apart = eqb-false used (length part) (no_room ∙ (take_enters (length part) i j l c (log_of part used) (lane_fields L) (e ∙ seen)).0) in
        ⊎_elim (λ h. h) (λ past. absurd (apart (omega arith))) (cases_lt used (length part))
