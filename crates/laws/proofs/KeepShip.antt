-- ship keeps the invariant.
use Rattle.std.proofs.Common.{◌≡◌, ℕ, suc, ◌+◌, ◌-◌, ◌*◌, ◌<◌, ◌≤◌, true, false, ◌||◌, eqb, List, [], ◌∷◌, ◌++◌, map, length, get_or, take, Some, None, filter, Option, sym, refl, ap, ◌∙◌, subst, arith}
use Rattle.std.specs.List.{AllByRecursion}
use Rattle.std.proofs.ByRecursion.{All-append}
use Rattle.std.proofs.lemmas.List.{append_assoc, append-nil}
use Rattle.std.proofs.lemmas.Bool.{true≢false, not-false, eqb-false, or_parts}
use Rattle.marks.specs.Kinds.{Header}
use Rattle.frames.specs.Fields.{EntryFields, FrameFields}
use Rattle.protocol.specs.Rows.{blank_row, row_of, mark_shipped}
use Rattle.protocol.specs.Rack.{Sizes, State, is_leader, no_card, no_peer}
use Rattle.frames.specs.Carried.{entry_frame}
use Rattle.protocol.specs.Booking.{entry_at, inside, diff_entries, message_frames, shipment, shipped_after, shipment_to, with_peers, ship_checks, shipped}
use Rattle.protocol.specs.declared.card.Card.{Card}
use Rattle.laws.proofs.Base.{hn, at_same, at_other}
use Rattle.laws.proofs.Inv.{Past, view, CardOk, RowOk, FrameOk, Parcel, message, diff, frames_of, laid, MessageOk, ParcelOk, Waiting, Inv}
use Rattle.laws.proofs.Past.{Meets}
use Rattle.protocol.proofs.Asked.{Passed}
use Rattle.laws.proofs.Keep.{card_within, same_grows, same_still, acted, lane_all, lane_zero}
use Rattle.laws.proofs.Tables.{row_ok, ship_ok}
use Rattle.laws.proofs.KeepVoting.{Kept}
use Rattle.laws.proofs.Found.{InLog, in_current, inside_start}

-- one parcel more at the end of a lane
laid_more : (ps : List Parcel) (p : Parcel) → laid (ps ++ p ∷ []) ≡ laid ps ++ frames_of p
laid_more [] p = append-nil (frames_of p)
laid_more (q ∷ ps) p = ap (λ ys. frames_of q ++ ys) (laid_more ps p) ∙ sym (append_assoc (frames_of q) (laid ps) (frames_of p))

pub waiting_more : (H : Past) (n j i : ℕ) (lane : List FrameFields) (p : Parcel) → Waiting H n j i lane → ParcelOk H n j i p → Waiting H n j i (lane ++ frames_of p)
waiting_more H n j i lane p w ok = record { parcels = w.parcels ++ p ∷ []; is = ap (λ ys. ys ++ frames_of p) w.is ∙ sym (laid_more w.parcels p); ok = All-append (ParcelOk H n j i) w.parcels (p ∷ []) w.ok (ok, tt) }

-- frames of kinds 1 to 3 are no rows
no_row : (H : Past) (n j : ℕ) (f : FrameFields) → f.kind ≤ 3 → FrameOk H n j f
no_row H n j f l = record { accept = λ e. absurd (omega (arith, e, l)); vote = λ e. absurd (omega (arith, e, l)); commit = λ e. absurd (omega (arith, e, l)) }

no_rows : (H : Past) (n j kind : ℕ) (xs : List EntryFields) → kind ≤ 3 → AllByRecursion (FrameOk H n j) (map (entry_frame kind) xs)
no_rows H n j kind [] l = tt
no_rows H n j kind (x ∷ xs) l = (no_row H n j (entry_frame kind x) l, no_rows H n j kind xs l)

parcel_rows : (H : Past) (n j : ℕ) (p : Parcel) → AllByRecursion (FrameOk H n j) (frames_of p)
parcel_rows H n j (message x) = (no_row H n j (entry_frame 1 x) (omega arith), tt)
parcel_rows H n j (diff e base xs) = (no_row H n j _ (omega arith), no_rows H n j 3 xs (omega arith))

pub peer_place : (z : Sizes) (i j : ℕ) → no_peer z i j ≡ false → suc (j - 1) ≡ j
peer_place z i j h = omega (arith, (card_within z j (or_parts (no_card z j) (eqb i j) (or_parts (no_card z i) (no_card z j || eqb i j) h).1).0).0)

pub peers_differ : (z : Sizes) (i j : ℕ) → no_peer z i j ≡ false → i ≡ j → ⊥
peers_differ z i j h = eqb-false i j (or_parts (no_card z j) (eqb i j) (or_parts (no_card z i) (no_card z j || eqb i j) h).1).1

-- the next entry that was sent, as a message
message_ok : (H : Past) (i r l k m : ℕ) (x : EntryFields) → l < 8 → l ≡ i → H.won (r * 8 + l) ≡ true → InLog H (r * 8 + l) k m (r, l, suc k) x → MessageOk H i x
message_ok H i r l k m x small led w f =
    let q = sym f.header in
    record {
      led = subst (λ (h : Header). h.1 < 8) q small;
      leader = ap (λ (h : Header). h.1) f.header ∙ led;
      won = subst (λ (h : Header). H.won (hn h) ≡ true) q w;
      counted = subst (λ (h : Header). 1 ≤ h.2) q (omega arith);
      sent = subst (λ (h : Header). h.2 ≤ length (H.sent (hn h))) q f.sent;
      adds = subst (λ (h : Header). take h.2 (H.sent (hn h)) ≡ take (h.2 - 1) (H.sent (hn h)) ++ x ∷ []) q (f.adds ∙ ap (λ j. take j (H.sent (r * 8 + l)) ++ x ∷ []) (less k));
    }
  where
    less : (k : ℕ) → k ≡ suc k - 1
    less k = omega arith

module _ {S : Type 0} (z : Sizes) (meets : Meets z.cards) (H : Past) (s : State S) (d : ℕ → List EntryFields) (I : Inv z.cards H s d) (i j : ℕ) (p : Passed (ship_checks z i j s)) where
  C : CardOk H z.cards i (view (s.cards i)) (s.logs i) (d i)
  C = I.card i

  leading : is_leader (s.cards i).role ≡ true
  leading = not-false _ p.1.1.0

  peer : suc (j - 1) ≡ j
  peer = peer_place z i j p.0

  row : RowOk H z.cards j (row_of (s.cards i).peers j)
  row = subst (λ k. RowOk H z.cards k (row_of (s.cards i).peers j)) peer (row_ok H z.cards I.sound (s.cards i).peers (I.row i) j)

  -- what is shipped is one whole parcel
  record Ships (frames : List FrameFields) : Type 0 where
    parcel : Parcel
    is : frames ≡ frames_of parcel
    ok : ParcelOk H z.cards i j parcel

  ships : (o : Option ℕ) → (eqb (length (shipment (s.cards i) (row_of (s.cards i).peers j).commit o (s.logs i))) 0 ≡ false) → Ships (shipment (s.cards i) (row_of (s.cards i).peers j).commit o (s.logs i))
  ships None some = record {
    parcel = diff (s.cards i).current (row_of (s.cards i).peers j).commit (diff_entries (s.cards i).current (row_of (s.cards i).peers j).commit (s.logs i));
    is = refl;
    ok = record {
      led = C.cur_led;
      leader = C.leads leading;
      won = C.cur_won;
      from = row.commit;
      is = ap (filter (inside (row_of (s.cards i).peers j).commit ((s.cards i).current.0, (s.cards i).current.1, 0))) C.log_is ∙ inside_start H z.cards I.sound (row_of (s.cards i).peers j).commit (s.cards i).current.0 (s.cards i).current.1 (s.cards i).accepted.2 C.cur_led C.cur_won;
    };
  }
  ships (Some k) some = by (entry_at h (s.logs i)) refl some
    where
      h : Header
      h = ((s.cards i).current.0, (s.cards i).current.1, k + 1)

      by : (o : Option EntryFields) → entry_at h (s.logs i) ≡ o → eqb (length (message_frames o)) 0 ≡ false → Ships (message_frames o)
      by None e t = absurd (true≢false t)
      by (Some x) e t = record { parcel = message x; is = refl; ok = ok }
        where
          plus : k + 1 ≡ suc k
          plus = omega arith

          ok : MessageOk H i x
          ok = message_ok H i (s.cards i).current.0 (s.cards i).current.1 k (s.cards i).accepted.2 x C.cur_led (C.leads leading) C.cur_won (in_current I.sound C k x (subst (λ (m : ℕ). entry_at ((s.cards i).current.0, (s.cards i).current.1, m) (s.logs i) ≡ Some x) plus e))

  pub ship_keeps : Kept z.cards H (shipped i j s) d
  ship_keeps =
      let t = shipped i j s in (
        H,
        same_grows H,
        acted z.cards meets H H s t d d I (same_grows H) I.sound i (λ j _. same_still H j) card (s.logs i) (d i)
            (record { card = at_same i card s.cards; log_is = refl; list_is = refl; cards = λ j ne. at_other i card s.cards j ne; logs = λ _ _. refl; lists = λ _ _. refl })
            (I.card i) rows
            (lane_all (λ x y w f. AllByRecursion (FrameOk H z.cards x) f) i j 0 lane s.lanes (All-append _ (s.lanes i j 0) (shipment_to i j s) (I.frame i j 0) (subst (AllByRecursion (FrameOk H z.cards i)) (sym sent.is) (parcel_rows H z.cards i sent.parcel))) I.frame)
            (lane_zero (λ x y f. Waiting H z.cards x y f) i j lane s.lanes (subst (λ f. Waiting H z.cards i j (s.lanes i j 0 ++ f)) (sym sent.is) (waiting_more H z.cards i j (s.lanes i j 0) sent.parcel (I.waiting i j) sent.ok)) I.waiting),
      )
    where
      card : Card
      card = with_peers (mark_shipped (s.cards i).peers j (shipped_after (row_of (s.cards i).peers j).shipped)) (s.cards i)

      lane : List FrameFields
      lane = s.lanes i j 0 ++ shipment_to i j s

      sent : Ships (shipment_to i j s)
      sent = ships (row_of (s.cards i).peers j).shipped p.1.1.1.0

      rows : (k : ℕ) → RowOk H z.cards (suc k) (get_or card.peers.rows k blank_row)
      rows = ship_ok H z.cards I.sound (s.cards i).peers (I.row i) j _
