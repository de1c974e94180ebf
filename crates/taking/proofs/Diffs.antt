-- An opened diff in front of its lane, and what take makes of it.
use Rattle.std.proofs.Common.{◌≡◌, ℕ, ◌+◌, ◌-◌, ◌≤◌, eqb, ltb, List, map, length, take, drop, Ok, sym, ap, ◌∙◌, arith}
use Rattle.std.proofs.lemmas.Bool.{eqb-true, and_parts, ltb-false, cond-true, cond-false}
use Rattle.std.proofs.lemmas.List.{length-append, length-map}
use Rattle.std.proofs.lemmas.Bool.Decides.{nat_tests}
use Rattle.backplane.specs.Lanes.{Lanes, with_lane}
use Rattle.backplane.specs.declared.lane.Lane.{Lane}
use Rattle.frames.specs.Fields.{FrameFields, EntryFields, fields_of}
use Rattle.frames.specs.declared.entry.Entry.{Entry}
use Rattle.frames.specs.Carried.{entry_of}
use Rattle.protocol.specs.Taking.{front, front_size, is_message, body_of, kept_up_to, installed_log, log_after, entered_by, taken_by}
use Rattle.protocol.specs.declared.answer.Answer.TheVariants.{Took}
use Rattle.protocol.specs.declared.answer.Intake.TheVariants.{PassedOver, Appended, Installed}
use Rattle.protocol.specs.declared.card.Card.{Card}
use Rattle.cards.specs.LaneViews.{lane_fields}
use Rattle.logs.specs.Log.{log_of}
use Rattle.logs.proofs.Cuts.{kept_at_most}
use Rattle.taking.specs.Openings.{DiffFront}
use Rattle.taking.specs.Parts.{take_front}
use Rattle.taking.specs.Verdicts.{verdict_on}
use Rattle.taking.specs.declared.diff.OpenedDiff.{OpenedDiff}
use Rattle.taking.specs.declared.verdict.Verdict.TheVariants.{Pass, Enter}
use Rattle.taking.proofs.Turns.{diff_judged, take_passes, take_enters, lanes_gone}

module _ (at : Lane) (L : Lanes) (d : OpenedDiff) (stands : DiffFront at.from (lane_fields L at.from at.to at.number) d) where
  abbrev lane : List FrameFields
  lane = lane_fields L at.from at.to at.number

  all_frames : d.entries + 1 ≡ front_size (lane_fields L at.from at.to at.number)
  all_frames = ap (λ t. t.entries + 1) stands.token ∙ sym (cond-true _ _ _ stands.diff)

  module _ (c : Card) (part : List Entry) (used stay : ℕ) (counted : stay ≡ length (kept_up_to d.base (log_of part used))) where
    log_is : installed_log d.base (map entry_of (take d.entries (drop 1 lane))) (log_of part used) ≡ log_after lane (log_of part used)
    log_is = ap (λ t. installed_log t.base (map entry_of (take t.entries (drop 1 lane))) (log_of part used)) stands.token ∙ sym (cond-false _ _ _ stands.message)

    log_long : length (log_after lane (log_of part used)) ≡ stay + d.entries
    log_long =
        ap length (cond-false _ _ _ stands.message)
        ∙ length-append (kept_up_to ((front lane).w1, (front lane).w2, (front lane).w3) (log_of part used)) (map entry_of (body_of lane))
        ∙ (λ k. kept k + entries k)
      where
        kept : length (kept_up_to ((front lane).w1, (front lane).w2, (front lane).w3) (log_of part used)) ≡ stay
        kept = sym (counted ∙ ap (λ t. length (kept_up_to t.base (log_of part used))) stands.token)

        entries : length (map entry_of (body_of lane)) ≡ d.entries
        entries = length-map (body_of lane) entry_of ∙ eqb-true (length (body_of lane)) (front lane).w4 (and_parts (eqb (length (body_of lane)) (front lane).w4) _ stands.whole).0 ∙ sym (ap (λ t. t.entries) stands.token)

    pub diff_stay : stay ≤ length part
    diff_stay = omega (arith, counted, kept_at_most d.base part used)

    no_room : ltb (length part - stay) d.entries ≡ ltb (length part) (length (log_after lane (log_of part used)))
    no_room = by (length part) d.entries (length (log_after lane (log_of part used))) log_long diff_stay
      where
        by : (places entries long : ℕ) → long ≡ stay + entries → stay ≤ places → ltb (places - stay) entries ≡ ltb places long
        by places entries long e h = grind (arith, nat_tests)

    seen : verdict_on c (fields_of 2 (d.epoch.0, d.epoch.1, 0) (0, 0, 0, 0)) (ltb (length part - stay) d.entries) ≡ verdict_on c (front lane) (ltb (length part) (length (log_after lane (log_of part used))))
    seen = diff_judged c (front lane) _ _ no_room d.epoch stands.message (ap (λ t. t.epoch) stands.token)

    pub diff_room : Ok Enter ≡ verdict_on c (fields_of 2 (d.epoch.0, d.epoch.1, 0) (0, 0, 0, 0)) (ltb (length part - stay) d.entries) → length (kept_up_to d.base (log_of part used)) + d.entries ≤ length part
    diff_room e =
        let fits = ltb-false (length part) (length (log_after lane (log_of part used))) (take_enters (length part) at.to at.from at.number c (log_of part used) (lane_fields L) (e ∙ seen)).0 in
        omega (arith, fits, log_long, counted)

    module _ (L' : Lanes) (dropped : L' ≡ with_lane L at.from at.to at.number (drop (d.entries + 1) (L at.from at.to at.number))) where
      pub diff_passed : Ok Pass ≡ verdict_on c (fields_of 2 (d.epoch.0, d.epoch.1, 0) (0, 0, 0, 0)) (ltb (length part - stay) d.entries) → (Ok (Took PassedOver), (c, log_of part used, lane_fields L')) ≡ take_front (length part) at.to at.from at.number (c, log_of part used, lane_fields L)
      diff_passed e =
          (λ k. (Ok (Took PassedOver), (c, log_of part used, lanes_gone at.to at.from at.number (d.entries + 1) L L' dropped all_frames k)))
          ∙ take_passes (length part) at.to at.from at.number c (log_of part used) (lane_fields L) (e ∙ seen)

      pub diff_entered : (c' : Card) (log' : List EntryFields) → c' ≡ entered_by d.epoch c → log' ≡ installed_log d.base (map entry_of (take d.entries (drop 1 (lane_fields L at.from at.to at.number)))) (log_of part used) → Ok Enter ≡ verdict_on c (fields_of 2 (d.epoch.0, d.epoch.1, 0) (0, 0, 0, 0)) (ltb (length part - stay) d.entries) → (Ok (Took Installed), (c', log', lane_fields L')) ≡ take_front (length part) at.to at.from at.number (c, log_of part used, lane_fields L)
      diff_entered c' log' entered installed e =
          let header : entered_by d.epoch c ≡ taken_by c (front lane) = ap (λ t. entered_by t.epoch c) stands.token ∙ sym (cond-false _ _ _ stands.message) in
          (λ k. (Ok (Took (sym (cond-false (is_message (front lane)) Appended Installed stands.message) k)), ((entered ∙ header) k, (installed ∙ log_is) k, lanes_gone at.to at.from at.number (d.entries + 1) L L' dropped all_frames k)))
          ∙ (take_enters (length part) at.to at.from at.number c (log_of part used) (lane_fields L) (e ∙ seen)).1
