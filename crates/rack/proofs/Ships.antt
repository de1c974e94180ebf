-- ship, from its part on one card, its log and the lanes.
use Rattle.std.proofs.Common.{◌≡◌, ℕ, ◌+◌, ◌-◌, ◌≤◌, Bool, true, false, cond, not, eqb, ltb, List, [], ◌∷◌, ◌++◌, map, length, get_or, Some, None, Err, Option, sym, refl, ap, ◌∙◌, arith}
use Rattle.std.proofs.lemmas.Bool.{not-false}
use Rattle.std.proofs.lemmas.List.Filters.{length-filter_both}
use Rattle.refusals.specs.declared.Refusal.{Refusal}
use Rattle.refusals.specs.declared.Refusal.TheVariants.{NoSuchCard, Stopped, WrongRole, NothingDue, Malformed, LaneFull}
use Rattle.marks.specs.Kinds.{Header, is_header}
use Rattle.backplane.specs.Lanes.{Lanes, LanesOf, is_lane}
use Rattle.frames.specs.declared.entry.Entry.{Entry}
use Rattle.frames.specs.Fields.{EntryFields, FrameFields}
use Rattle.frames.specs.Views.{entry_fields}
use Rattle.protocol.specs.Rows.{row_of, mark_shipped}
use Rattle.protocol.specs.Rack.{State, Reply, ask, is_leader}
use Rattle.protocol.specs.Booking.{inside, diff_entries, shipment_to, shipped_after, shipped, ship, with_peers}
use Rattle.protocol.specs.declared.answer.Answer.TheVariants.{Count}
use Rattle.protocol.specs.declared.card.Card.{Card}
use Rattle.protocol.proofs.Asked.{ask_keeps, ask_omit, ask_lifts}
use Rattle.logs.proofs.Logs.{log_length}
use Rattle.cards.specs.LaneViews.{lane_fields}
use Rattle.cards.specs.Sizes.{card_count}
use Rattle.shipping.specs.Lanes.{lanes_with}
use Rattle.shipping.specs.Shipping.{unshippable, ship_part}
use Rattle.rack.specs.Sound.{sound_card}
use Rattle.rack.specs.Seats.{used_in}
use Rattle.rack.specs.View.{part_of, view, sizes}
use Rattle.rack.specs.declared.seat.Seat.{Seat}
use Rattle.rack.proofs.Written.{Written}
use Rattle.rack.specs.declared.state.Rack.{Rack}
use Rattle.rack.proofs.Sounds.{sound_shipped}
use Rattle.rack.proofs.Frames.{framed_head, base_header}
use Rattle.rack.proofs.Views.{own_card, own_log, view_written}
use Rattle.rack.proofs.Peers.{Pair, lane_is}
use Rattle.rack.proofs.Exchanges.{with_both, both_same}

-- a sound leader's diff has a head
shippable : (c : Card) (base : Header) (o : Option ℕ) (log : List EntryFields) → sound_card c ≡ true → is_leader c.role ≡ true → is_header base ≡ true → length log ≤ 1024 → unshippable c base o log ≡ false
shippable c base None log sound leads good few = ap not (framed_head c base (length (diff_entries c.current base log)) sound leads good (omega (arith, few, length-filter_both (inside base (c.current.0, c.current.1, 0)) (λ x. not (inside base (c.current.0, c.current.1, 0) x)) (λ _. refl) log)))
shippable c base (Some k) log sound leads good few = refl

module _ {S : Type 0} (r : Rack) (i j room : ℕ) (entries : List Entry) (ms : ℕ → S) (lanes : Lanes) (seat : Seat) (pair : Pair r i j seat) (seen : List Entry) (log_is : map entry_fields seen ≡ (view r entries ms lanes).logs i) (count : ℕ) (wide : count ≡ card_count r.size) where
  abbrev s : State S
  s = view r entries ms lanes

  abbrev own : Card
  own = s.cards i

  abbrev n : ℕ
  n = card_count r.size

  abbrev due : List FrameFields
  due = shipment_to i j s

  abbrev first : List (Bool × Refusal)
  first = (own.stopped, Stopped) ∷ (not (is_leader own.role), WrongRole) ∷ (eqb (length due) 0, NothingDue) ∷ []

  abbrev last : List (Bool × Refusal)
  last = (ltb room (length (s.lanes i j 0) + length due), LaneFull) ∷ []

  abbrev odd : Bool
  odd = unshippable own (row_of own.peers j).commit (row_of own.peers j).shipped (s.logs i)

  abbrev checks : List (Bool × Refusal)
  checks = first ++ ((odd, Malformed) ∷ (not (is_lane count i j 0), NoSuchCard) ∷ last)

  abbrev Part : Type 0
  Part = Card × LanesOf FrameFields

  abbrev before : Part
  before = (own, s.lanes)

  abbrev after : Part
  after = (with_peers (mark_shipped own.peers j (shipped_after (row_of own.peers j).shipped)) own, lanes_with i j 0 due s.lanes)

  sound : sound_card own ≡ true
  sound = ap sound_card (own_card r i entries ms lanes pair.card) ∙ r.sound (i - 1)

  few : length (s.logs i) ≤ 1024
  few = omega (arith, ap length (own_log r i entries ms lanes pair.card), log_length (part_of r.places i entries) (get_or (used_in r.seats) (i - 1) 0), r.fit (i - 1), r.few)

  lane : is_lane count i j 0 ≡ true
  lane = ap (λ m. is_lane m i j 0) wide ∙ lane_is n i j 0 pair.card pair.peer pair.apart refl

  at_rack : ask checks (Count (length due)) (shipped i j s) s ≡ ship (sizes r room) i j s
  at_rack =
      ask_omit first ((not (is_lane count i j 0), NoSuchCard) ∷ last) odd Malformed (Count (length due)) (shipped i j s) s (λ p. shippable own (row_of own.peers j).commit (row_of own.peers j).shipped (s.logs i) sound (not-false (is_leader own.role) p.1.0) (base_header own j sound) few)
      ∙ ask_omit first last (not (is_lane count i j 0)) NoSuchCard (Count (length due)) (shipped i j s) s (λ _. ap not lane)
      ∙ sym (ap (λ b. cond b (Err NoSuchCard, s) (ask (first ++ last) (Count (length due)) (shipped i j s) s)) pair.here)

  from_part : ship_part count room i j (map entry_fields seen) (seat.card, lane_fields lanes) ≡ ship_part count room i j (s.logs i) before
  from_part = λ k. ship_part count room i j (log_is k) ((pair.found.card ∙ sym (own_card r i entries ms lanes pair.card)) k, lane_fields lanes)

  pub ship_answered : (reply : Reply) (c : Card) (lanes' : Lanes) (r' : Rack) → (reply, (c, lane_fields lanes')) ≡ ship_part count room i j (map entry_fields seen) (seat.card, lane_fields lanes) → Written r r' i (record { card = c; used = seat.used }) r.tally → (reply, view r' entries ms lanes') ≡ ship (sizes r room) i j s
  ship_answered reply c lanes' r' e w =
      (λ k. (reply, view_written r r' i (record { card = c; used = seat.used }) r.tally entries ms lanes' pair.card w pair.found.used refl k))
      ∙ ask_lifts (λ p. with_both i p s) checks (Count (length due)) after before (c, lane_fields lanes') reply (e ∙ from_part)
      ∙ (λ k. ask checks (Count (length due)) (shipped i j s) (both_same i s k))
      ∙ at_rack

  -- refused or not
  pub ship_sound : (reply : Reply) (c : Card) (lanes' : Lanes) → (reply, (c, lane_fields lanes')) ≡ ship_part count room i j (map entry_fields seen) (seat.card, lane_fields lanes) → sound_card c ≡ true
  ship_sound reply c lanes' e =
      ap (λ (t : Reply × Part). sound_card t.1.0) (e ∙ from_part)
      ∙ ask_keeps (λ (p : Part). sound_card p.0 ≡ true) checks (Count (length due)) after before sound (λ _. sound_shipped own j (shipped_after (row_of own.peers j).shipped) sound)
