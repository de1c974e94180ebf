-- submit, from its part on one card and its log.
use Rattle.std.proofs.Common.{◌≡◌, ℕ, ◌+◌, ◌-◌, ◌*◌, Bool, true, false, cond, not, ◌||◌, ltb, leb, List, [], ◌∷◌, ◌++◌, length, Err, sym, refl, ap, ◌∙◌, arith}
use Rattle.std.proofs.lemmas.Bool.{and_from, le-leb, ltb-false, not-false}
use Rattle.refusals.specs.declared.Refusal.{Refusal}
use Rattle.refusals.specs.declared.Refusal.TheVariants.{NoSuchCard, OutOfRange, Stopped, WrongRole, Malformed, LogFull, UsedUp}
use Rattle.backplane.specs.Lanes.{Lanes, is_card}
use Rattle.frames.specs.Fields.{Words, EntryFields, is_entry_header}
use Rattle.frames.specs.declared.entry.Entry.{Entry}
use Rattle.logs.specs.Log.{log_of}
use Rattle.protocol.specs.Rack.{State, Reply, ask, with_card, with_log, with_tally, is_leader}
use Rattle.protocol.specs.Booking.{place_after, booked, accepted_up_to, submitted, submit}
use Rattle.protocol.specs.declared.answer.Answer.{Answer}
use Rattle.protocol.specs.declared.answer.Answer.TheVariants.{Placed}
use Rattle.protocol.specs.declared.card.Card.{Card}
use Rattle.protocol.proofs.Asked.{Passed, ask_keeps, ask_refused, ask_omit, ask_lifts}
use Rattle.cards.specs.Sizes.{card_count}
use Rattle.card_log.specs.Parts.{is_booking, submit_log}
use Rattle.rack.specs.Sound.{sound_card}
use Rattle.rack.specs.View.{part_of, view, sizes}
use Rattle.rack.proofs.Written.{Written}
use Rattle.rack.specs.declared.seat.Seat.{Seat}
use Rattle.rack.specs.declared.state.Rack.{Rack}
use Rattle.rack.proofs.Sounds.{sound_parts, sound_placed, place_entry}
use Rattle.rack.proofs.Parts.{part_long, Replaced}
use Rattle.rack.proofs.Views.{Found, card_same, own_card, own_log, put_back, view_changed, view_written}

-- a sound leader's next header is an entry's
booking : (c : Card) (queue : ℕ) → sound_card c ≡ true → is_leader c.role ≡ true → leb 4294967294 c.accepted.2 ≡ false → ltb 15 queue ≡ false → is_booking (place_after c.accepted) queue ≡ true
booking c queue sound leads room low =
    and_from (is_entry_header (place_after c.accepted)) (leb queue 15) (place_entry c.accepted.0 c.accepted.1 c.accepted.2 ((sound_parts c sound).places leads) room) (le-leb queue 15 (omega (arith, ltb-false 15 queue low)))

or_left : (a b : Bool) → (a || b) ≡ false → a ≡ false
or_left true b e = e
or_left false b e = refl

module _ {S : Type 0} (r : Rack) (i queue capacity : ℕ) (payload : Words) (entries : List Entry) (ms : ℕ → S) (lanes : Lanes) (is : is_card (card_count r.size) i ≡ true) where
  abbrev s : State S
  s = view r entries ms lanes

  abbrev own : Card
  own = s.cards i

  abbrev next : Answer
  next = Placed (place_after own.accepted)

  abbrev checks : List (Bool × Refusal)
  checks = (own.stopped, Stopped) ∷ (not (is_leader own.role), WrongRole) ∷ (leb r.places (length (s.logs i)), LogFull) ∷ (leb 4294967294 own.accepted.2 || leb 18446744073709551615 r.tally, UsedUp) ∷ []

  pub submit_queue : ltb 15 queue ≡ true → (Err OutOfRange, s) ≡ submit (sizes r capacity) i queue payload s
  submit_queue high = sym (ap (λ b. cond (not b) (Err NoSuchCard, s) (cond (ltb 15 queue) (Err OutOfRange, s) (ask checks next (submitted i queue payload s) s))) is ∙ ap (λ b. cond b (Err OutOfRange, s) (ask checks next (submitted i queue payload s) s)) high)

  module _ (long : length entries ≡ card_count r.size * r.places) (low : ltb 15 queue ≡ false) (seat : Seat) (found : Found r i seat) (part : List Entry) (slice : part ≡ part_of r.places i entries) where
    abbrev odd : Bool
    odd = not (is_booking (place_after own.accepted) queue)

    abbrev Part : Type 0
    Part = Card × List EntryFields × ℕ

    abbrev before : Part
    before = (own, s.logs i, s.tally)

    abbrev after : Part
    after = (accepted_up_to (place_after own.accepted) own, s.logs i ++ booked own queue payload ∷ [], s.tally + 1)

    abbrev whole : Part → State S
    whole p = with_card i p.0 (with_log i p.1 (with_tally p.2 s))

    sound : sound_card own ≡ true
    sound = ap sound_card (own_card r i entries ms lanes is) ∙ r.sound (i - 1)

    never : Passed checks → odd ≡ false
    never p = ap not (booking own queue sound (not-false (is_leader own.role) p.1.0) (or_left (leb 4294967294 own.accepted.2) (leb 18446744073709551615 r.tally) p.1.1.1.0) low)

    at_rack : ask (checks ++ (odd, Malformed) ∷ []) next (submitted i queue payload s) s ≡ submit (sizes r capacity) i queue payload s
    at_rack =
        ask_omit checks [] odd Malformed next (submitted i queue payload s) s never
        ∙ sym (ap (λ b. cond (not b) (Err NoSuchCard, s) (cond (ltb 15 queue) (Err OutOfRange, s) (ask checks next (submitted i queue payload s) s))) is ∙ ap (λ b. cond b (Err OutOfRange, s) (ask checks next (submitted i queue payload s) s)) low)

    from_part : submit_log (length part) queue payload (seat.card, log_of part seat.used, r.tally) ≡ submit_log r.places queue payload before
    from_part = λ k. submit_log ((ap length slice ∙ part_long (card_count r.size) i r.places entries is long) k) queue payload ((found.card ∙ sym (own_card r i entries ms lanes is)) k, ((λ t. log_of (slice t) (found.used t)) ∙ sym (own_log r i entries ms lanes is)) k, r.tally)

    module _ (reply : Reply) (x : Part) (e : (reply, x) ≡ submit_log (length part) queue payload (seat.card, log_of part seat.used, r.tally)) where
      lifted : (reply, whole x) ≡ submit (sizes r capacity) i queue payload s
      lifted =
          ask_lifts whole (checks ++ (odd, Malformed) ∷ []) next after before x reply (e ∙ from_part)
          ∙ (λ k. ask (checks ++ (odd, Malformed) ∷ []) next (submitted i queue payload s) (put_back i s k))
          ∙ at_rack

      pub submit_answered : (r' : Rack) (u : ℕ) (entries' part' : List Entry) → Written r r' i (record { card = x.0; used = u }) x.2 → x.1 ≡ log_of part' u → Replaced (card_count r.size) r.places i entries entries' part' → (reply, view r' entries' ms lanes) ≡ submit (sizes r capacity) i queue payload s
      submit_answered r' u entries' part' ch log w =
          (λ k. (reply, (view_changed r r' i (record { card = x.0; used = u }) x.2 entries ms lanes is ch entries' part' w ∙ (λ t. with_card i x.0 (with_log i (sym log t) (with_tally x.2 s)))) k))
          ∙ lifted

    -- refused, it leaves the card and all else
    pub submit_refused : (why : Refusal) (x : Part) (r' : Rack) → (Err why, x) ≡ submit_log (length part) queue payload (seat.card, log_of part seat.used, r.tally) → Written r r' i (record { card = x.0; used = seat.used }) r.tally → (Err why, view r' entries ms lanes) ≡ submit (sizes r capacity) i queue payload s
    submit_refused why x r' e ch =
        let d = ask_refused (checks ++ (odd, Malformed) ∷ []) [] next next why after before x (submitted i queue payload s) s (e ∙ from_part) in
        (λ k. (Err why, (view_written r r' i (record { card = x.0; used = seat.used }) r.tally entries ms lanes is ch found.used refl ∙ (λ t. with_card i (d.0 t).0 s) ∙ card_same i s) k))
        ∙ d.1
        ∙ at_rack

    -- refused or not
    pub submit_sound : (reply : Reply) (x : Part) → (reply, x) ≡ submit_log (length part) queue payload (seat.card, log_of part seat.used, r.tally) → sound_card x.0 ≡ true
    submit_sound reply x e =
        ap (λ (t : Reply × Part). sound_card t.1.0) (e ∙ from_part)
        ∙ ask_keeps (λ (p : Part). sound_card p.0 ≡ true) (checks ++ (odd, Malformed) ∷ []) next after before sound (λ p. sound_placed own sound (not-false (is_leader own.role) p.1.0) (or_left (leb 4294967294 own.accepted.2) (leb 18446744073709551615 r.tally) p.1.1.1.0))
