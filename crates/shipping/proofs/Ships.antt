-- A card that ships: from what became of the frames to what became of the card and the lanes.
use Rattle.std.proofs.Common.{◌≡◌, ℕ, ◌<◌, ◌≤◌, Bool, true, false, cond, not, eqb, leb, List, [], ◌∷◌, map, length, Some, None, Ok, Err, Option, sym, refl, ap, ◌∙◌, arith}
use Rattle.std.proofs.lemmas.Bool.{and_parts, and_right, cond-false, false≢true, leb-true, ne_eqb}
use Rattle.std.specs.Option.{option_or}
use Rattle.refusals.specs.declared.Refusal.{Refusal}
use Rattle.refusals.specs.declared.Refusal.TheVariants.{NothingDue}
use Rattle.marks.specs.Kinds.{Header, is_led_epoch}
use Rattle.frames.specs.declared.entry.Entry.{Entry}
use Rattle.frames.specs.Fields.{EntryFields, FrameFields, is_entry_header}
use Rattle.frames.specs.Views.{entry_fields}
use Rattle.backplane.specs.Lanes.{Lanes, LanesOf}
use Rattle.protocol.specs.Rows.{row_of, mark_shipped}
use Rattle.protocol.specs.Rack.{Reply, ask, is_leader}
use Rattle.protocol.specs.Booking.{is_header, entry_at, message_frames, shipment, shipped_after, with_peers}
use Rattle.protocol.specs.declared.answer.Answer.{Answer}
use Rattle.protocol.specs.declared.answer.Answer.TheVariants.{Count}
use Rattle.protocol.specs.declared.card.Card.{Card}
use Rattle.protocol.specs.declared.card.Role.{Role}
use denote.Enum.Bare.{sameb}
use Rattle.protocol.specs.contracts.card.Role.{the_type}
use Rattle.protocol.specs.declared.card.Role.TheVariants.{Follower, Electing, Leader}
use Rattle.protocol.specs.declared.peers.PeerRow.{PeerRow}
use Rattle.protocol.specs.declared.peers.PeerTable.{PeerTable}
use Rattle.cards.specs.LaneViews.{lane_fields}
use Rattle.logs.specs.Log.{entries_of}
use Rattle.shipping.specs.Shipping.{unshippable, due_checks, enter_part, ship_part}
use Rattle.shipping.specs.Lanes.{lanes_with}
use Rattle.shipping.proofs.Entering.{enter_none}

-- a change goes with an answer
abbrev pub kept : {C : Type 0} → Reply → C → C → C
kept (Ok a) after before = after
kept (Err r) after before = before

ask_both : {A C : Type 0} (checks : List (Bool × Refusal)) (answer : Answer) (after before : A) (c' c : C) → ((ask checks answer after before).0, (kept (ask checks answer after before).0 c' c, (ask checks answer after before).1)) ≡ ask {A = C × A} checks answer (c', after) (c, before)
ask_both [] answer after before c' c = refl
ask_both {A} {C} (check ∷ checks) answer after before c' c = by check.0 (ask_both checks answer after before c' c)
  where
    rest : Reply × A
    rest = ask checks answer after before

    by : (t : Bool) → (rest.0, (kept rest.0 c' c, rest.1)) ≡ ask {A = C × A} checks answer (c', after) (c, before) → ((cond t (Err check.1, before) rest).0, (kept (cond t (Err check.1, before) rest).0 c' c, (cond t (Err check.1, before) rest).1)) ≡ cond t (Err check.1, (c, before)) (ask {A = C × A} checks answer (c', after) (c, before))
    by true h = refl
    by false h = h

module _ (n room i j : ℕ) (c : Card) (lanes : LanesOf FrameFields) (log : List EntryFields) (runs : c.stopped ≡ false) (leads : is_leader c.role ≡ true) where
  abbrev marked : Option ℕ → Card
  marked shipped = with_peers (mark_shipped c.peers j (shipped_after shipped)) c

  -- the frames by the base and by what was shipped before, and what becomes of them and of the card
  abbrev tested_by : Bool → List FrameFields → List (Bool × Refusal)
  tested_by malformed due = due_checks n room i j 0 malformed due lanes

  abbrev ship_by : Bool → List FrameFields → Option ℕ → Reply × (Card × LanesOf FrameFields)
  ship_by malformed due shipped = ask (tested_by malformed due) (Count (length due)) (marked shipped, lanes_with i j 0 due lanes) (c, lanes)

  abbrev ship_row : PeerRow → Reply × (Card × LanesOf FrameFields)
  ship_row row = ship_by (unshippable c row.commit row.shipped log) (shipment c row.commit row.shipped log) row.shipped

  module _ (row : PeerRow) (known : row ≡ row_of c.peers j) (shipped : Option ℕ) (was : row.shipped ≡ shipped) (due : List FrameFields) (same : due ≡ shipment c row.commit shipped log) where
    shipped_by : (r : Reply) (left : LanesOf FrameFields) → (r, left) ≡ enter_part n room i j 0 (unshippable c row.commit shipped log) due lanes → (r, (kept r (marked shipped) c, left)) ≡ ship_part n room i j log (c, lanes)
    shipped_by r left entered =
        ap (λ (out : Reply × LanesOf FrameFields). (out.0, (kept out.0 (marked shipped) c, out.1))) entered
        ∙ ask_both (tested_by (unshippable c row.commit shipped log) due) (Count (length due)) (lanes_with i j 0 due lanes) lanes (marked shipped) c
        ∙ ap (λ d. ship_by (unshippable c row.commit shipped log) d shipped) same
        ∙ sym (ap (λ o. ship_by (unshippable c row.commit o log) (shipment c row.commit o log) o) was)
        ∙ ap ship_row known
        ∙ sym (cond-false _ _ _ runs ∙ cond-false _ _ _ (ap not leads))

    pub ship_refused : (r : Refusal) (left : LanesOf FrameFields) → (Err r, left) ≡ enter_part n room i j 0 (unshippable c row.commit shipped log) due lanes → (Err r, (c, left)) ≡ ship_part n room i j log (c, lanes)
    ship_refused r left entered = shipped_by (Err r) left entered

    pub ship_done : (a : Answer) (left : LanesOf FrameFields) (table : PeerTable) → table ≡ mark_shipped c.peers j (shipped_after shipped) → (Ok a, left) ≡ enter_part n room i j 0 (unshippable c row.commit shipped log) due lanes → (Ok a, (with_peers table c, left)) ≡ ship_part n room i j log (c, lanes)
    ship_done a left table stored entered = ap (λ t. (Ok a, (with_peers t c, left))) stored ∙ shipped_by (Ok a) left entered

pub leading : (role : Role) → false ≡ not (sameb the_type role Leader) → is_leader role ≡ true
leading Follower e = absurd (false≢true e)
leading Electing e = absurd (false≢true e)
leading Leader e = refl

-- no entry has a count past the last
module _ (h : Header) (past : 4294967294 < h.2) where
  counted : (e : Entry) → e.header.2 ≤ 4294967294
  counted e =
      let header : is_entry_header e.header ≡ true = (and_parts (is_entry_header e.header) _ e.well).0 in
      leb-true e.header.2 4294967294 (and_parts (leb 1 e.header.2) _ (and_parts (is_led_epoch (e.header.0, e.header.1)) _ header).1).1

  other : (e : Entry) → is_header e.header h ≡ false
  other e = and_right (eqb e.header.0 h.0) _ (and_right (eqb e.header.1 h.1) _ (ne_eqb e.header.2 h.2 (λ same. omega (arith, same, past, counted e))))

  none_past : (xs : List Entry) → entry_at h (map entry_fields xs) ≡ None
  none_past [] = refl
  none_past (e ∷ xs) = ap (λ o. option_or o (cond (is_header e.header h) (Some (entry_fields e)) None)) (none_past xs) ∙ cond-false _ _ _ (other e)

  pub nothing_past : (n room i j : ℕ) (lanes : Lanes) (log : List Entry) → (Err NothingDue, lane_fields lanes) ≡ enter_part n room i j 0 false (message_frames (entry_at h (entries_of log))) (lane_fields lanes)
  nothing_past n room i j lanes log = enter_none n room i j 0 lanes (message_frames (entry_at h (entries_of log))) false (ap (λ o. eqb (length (message_frames o)) 0) (none_past log))
