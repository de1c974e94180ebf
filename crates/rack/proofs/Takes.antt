-- take, from its part on one card, its log and the lanes.
use Rattle.std.proofs.Common.{◌≡◌, ℕ, ◌-◌, ◌*◌, Bool, true, false, cond, not, ◌&&◌, ◌||◌, eqb, ltb, List, [], ◌∷◌, length, Err, sym, refl, ap, ◌∙◌}
use Rattle.std.proofs.lemmas.Bool.{not-false, and_parts}
use Rattle.refusals.specs.declared.Refusal.{Refusal}
use Rattle.refusals.specs.declared.Refusal.TheVariants.{NoSuchCard, Stopped, NothingDue, Malformed, OutOfTurn, LogFull}
use Rattle.backplane.specs.Lanes.{Lanes, is_lane}
use Rattle.frames.specs.declared.entry.Entry.{Entry}
use Rattle.frames.specs.Fields.{FrameFields}
use Rattle.protocol.specs.Rack.{State, Reply, ask, with_card, with_log}
use Rattle.protocol.specs.Taking.{front, is_message, is_diff, whole_diff, formed, too_low, in_turn, log_after, taken_by, take_answer, passed_over, entered, taken, take_call}
use Rattle.protocol.specs.declared.answer.Answer.{Answer}
use Rattle.protocol.specs.declared.card.Card.{Card}
use Rattle.protocol.proofs.Asked.{Passed, ask_keeps, ask_refused, ask_omit, ask_lifts}
use Rattle.logs.specs.Log.{log_of}
use Rattle.cards.specs.LaneViews.{lane_fields}
use Rattle.cards.specs.Sizes.{card_count}
use Rattle.taking.specs.Parts.{Held, front_gone, take_after, take_part}
use Rattle.rack.specs.Sound.{sound_card}
use Rattle.rack.specs.View.{part_of, view, sizes}
use Rattle.rack.proofs.Written.{Written}
use Rattle.rack.specs.declared.seat.Seat.{Seat}
use Rattle.rack.specs.declared.state.Rack.{Rack}
use Rattle.rack.proofs.Sounds.{sound_taken}
use Rattle.rack.proofs.Parts.{part_long, Replaced}
use Rattle.rack.proofs.Peers.{Pair, lane_is, apart_back, front_frame}
use Rattle.rack.proofs.Views.{card_same, own_card, own_log, put_back, view_changed, view_written}
use Rattle.rack.proofs.Exchanges.{with_lanes}

-- what has a form is a message or a diff
or_and : (a b c : Bool) → (a || (b && c)) ≡ true → (a || b) ≡ true
or_and true b c e = refl
or_and false true c e = refl
or_and false false c e = e

module _ {S : Type 0} (r : Rack) (i j room : ℕ) (entries : List Entry) (ms : ℕ → S) (lanes : Lanes) (long : length entries ≡ card_count r.size * r.places) (seat : Seat) (pair : Pair r i j seat) (part : List Entry) (slice : part ≡ part_of r.places i entries) (count : ℕ) (wide : count ≡ card_count r.size) where
  abbrev s : State S
  s = view r entries ms lanes

  abbrev own : Card
  own = s.cards i

  abbrev n : ℕ
  n = card_count r.size

  abbrev lane : List FrameFields
  lane = s.lanes j i 0

  abbrev low : Bool
  low = too_low own (front lane)

  abbrev rest : List (Bool × Refusal)
  rest =
      (eqb (length lane) 0, NothingDue)
      ∷ (not (formed j lane), Malformed)
      ∷ (not low && not (in_turn own (front lane)), OutOfTurn)
      ∷ (not low && ltb r.places (length (log_after lane (s.logs i))), LogFull)
      ∷ []

  abbrev before : Held
  before = (own, s.logs i, s.lanes)

  abbrev checks : List (Bool × Refusal)
  checks = (own.stopped, Stopped) ∷ (not (is_lane count j i 0), NoSuchCard) ∷ rest

  abbrev answer : Answer
  answer = take_answer own (front lane)

  abbrev whole : Held → State S
  whole p = with_card i p.0 (with_log i p.1 (with_lanes p.2 s))

  sound : sound_card own ≡ true
  sound = ap sound_card (own_card r i entries ms lanes pair.card) ∙ r.sound (i - 1)

  there : is_lane count j i 0 ≡ true
  there = ap (λ m. is_lane m j i 0) wide ∙ lane_is n j i 0 pair.peer pair.card (apart_back i j pair.apart) refl

  -- passed over or entered, the rack's state follows from the part's
  after_is : (b : Bool) → whole (cond b (own, s.logs i, front_gone i j 0 s.lanes) (taken_by own (front lane), log_after lane (s.logs i), front_gone i j 0 s.lanes)) ≡ cond b (passed_over i j s) (entered i j s)
  after_is true = put_back i (passed_over i j s)
  after_is false = refl

  at_rack : ask checks answer (taken i j s) s ≡ take_call (sizes r room) i j s
  at_rack =
      ask_omit ((own.stopped, Stopped) ∷ []) rest (not (is_lane count j i 0)) NoSuchCard answer (taken i j s) s (λ _. ap not there)
      ∙ sym (ap (λ b. cond b (Err NoSuchCard, s) (ask ((own.stopped, Stopped) ∷ rest) answer (taken i j s) s)) pair.here)

  from_part : take_part count (length part) i j (seat.card, log_of part seat.used, lane_fields lanes) ≡ take_part count r.places i j before
  from_part = λ k. take_part count ((ap length slice ∙ part_long n i r.places entries pair.card long) k) i j ((pair.found.card ∙ sym (own_card r i entries ms lanes pair.card)) k, ((λ t. log_of (slice t) (pair.found.used t)) ∙ sym (own_log r i entries ms lanes pair.card)) k, lane_fields lanes)

  pub take_answered : (reply : Reply) (c : Card) (u : ℕ) (lanes' : Lanes) (entries' part' : List Entry) (r' : Rack) → (reply, (c, log_of part' u, lane_fields lanes')) ≡ take_part count (length part) i j (seat.card, log_of part seat.used, lane_fields lanes) → Written r r' i (record { card = c; used = u }) r.tally → Replaced n r.places i entries entries' part' → (reply, view r' entries' ms lanes') ≡ take_call (sizes r room) i j s
  take_answered reply c u lanes' entries' part' r' e ch w =
      (λ k. (reply, view_changed r r' i (record { card = c; used = u }) r.tally entries ms lanes' pair.card ch entries' part' w k))
      ∙ ask_lifts whole checks answer (take_after i j 0 before) before (c, log_of part' u, lane_fields lanes') reply (e ∙ from_part)
      ∙ (λ k. ask checks answer (after_is low k) (put_back i s k))
      ∙ at_rack

  -- refused, it leaves the card and all else
  pub take_refused : (why : Refusal) (x : Held) (lanes' : Lanes) (r' : Rack) → x.2 ≡ lane_fields lanes' → (Err why, x) ≡ take_part count (length part) i j (seat.card, log_of part seat.used, lane_fields lanes) → Written r r' i (record { card = x.0; used = seat.used }) r.tally → (Err why, view r' entries ms lanes') ≡ take_call (sizes r room) i j s
  take_refused why x lanes' r' same e ch =
      let d = ask_refused checks [] answer answer why (take_after i j 0 before) before x (taken i j s) s (e ∙ from_part) in
      (λ k. (Err why, (view_written r r' i (record { card = x.0; used = seat.used }) r.tally entries ms lanes' pair.card ch pair.found.used refl ∙ (λ t. with_card i (d.0 t).0 (with_lanes ((sym same ∙ (λ u. (d.0 u).2)) t) s)) ∙ card_same i s) k))
      ∙ d.1
      ∙ at_rack

  taken_sound : (b : Bool) → sound_card (taken_by own (front lane)) ≡ true → sound_card (cond {A = Held} b (own, s.logs i, front_gone i j 0 s.lanes) (taken_by own (front lane), log_after lane (s.logs i), front_gone i j 0 s.lanes)).0 ≡ true
  taken_sound true t = sound
  taken_sound false t = t

  takes : Passed checks → sound_card (take_after i j 0 before).0 ≡ true
  takes p =
      let well = not-false (formed j lane) p.1.1.1.0 in
      let kind = or_and (is_message (front lane)) (is_diff (front lane)) (whole_diff lane) (and_parts (is_message (front lane) || (is_diff (front lane) && whole_diff lane)) (eqb (front lane).leader j) well).0 in
      taken_sound low (sound_taken own (front lane) sound (front_frame (lanes j i 0) p.1.1.0) kind)

  -- refused or not
  pub take_sound : (reply : Reply) (x : Held) → (reply, x) ≡ take_part count (length part) i j (seat.card, log_of part seat.used, lane_fields lanes) → sound_card x.0 ≡ true
  take_sound reply x e =
      ap (λ (t : Reply × Held). sound_card t.1.0) (e ∙ from_part)
      ∙ ask_keeps (λ (p : Held). sound_card p.0 ≡ true) checks answer (take_after i j 0 before) before sound takes
