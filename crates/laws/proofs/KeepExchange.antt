-- push, look and stop keep the invariant.
use Rattle.std.proofs.Common.{◌≡◌, ℕ, suc, ◌-◌, ◌≤◌, Bool, true, false, cond, not, ◌&&◌, eqb, leb, ◌⊎◌, List, [], ◌∷◌, ◌++◌, length, get_or, drop, sym, refl, ap, subst, inl, inr, arith}
use Rattle.std.specs.List.{AllByRecursion}
use Rattle.std.proofs.ByRecursion.{All-drop, All-push}
use Rattle.std.proofs.lemmas.Bool.{true≢false, not-false, eqb-true, eqb-false, and_parts, leb-true}
use Rattle.marks.specs.Kinds.{epoch_of}
use Rattle.marks.specs.Order.{epoch_same}
use Rattle.frames.specs.Fields as fields
use Rattle.frames.specs.Fields.{EntryFields, FrameFields}
use Rattle.protocol.specs.Rows.{blank_row, row_of, store_accept, store_vote, store_commit}
use Rattle.protocol.specs.Rack.{Sizes, State, with_card, is_row_kind}
use Rattle.protocol.specs.Booking.{with_peers}
use Rattle.protocol.specs.Taking.{front}
use Rattle.protocol.specs.Exchange.{own_row, push_checks, pushed, stored, look_checks, looked, stopped_card}
use Rattle.protocol.specs.declared.card.Card.{Card}
use Rattle.laws.proofs.Base.{en, hn, at_same, at_other}
use Rattle.laws.proofs.Inv.{Past, view, CardOk, AcceptOk, VoteOk, CommitOk, RowOk, FrameOk, Waiting, Inv}
use Rattle.laws.proofs.Past.{Meets}
use Rattle.protocol.proofs.Asked.{Passed}
use Rattle.laws.proofs.Keep.{same_grows, same_still, acted, lane_all, lane_other}
use Rattle.laws.proofs.Tables.{row_ok, put_ok}
use Rattle.laws.proofs.KeepVoting.{Kept, acc_num, acc_led}
use Rattle.laws.proofs.KeepShip.{peer_place}
use Rattle.laws.proofs.KeepTake.{epoch_same_lem}

pub row_kinds : (kind : ℕ) → is_row_kind kind ≡ true → (kind ≡ 4) ⊎ ((kind ≡ 5) ⊎ (kind ≡ 6))
row_kinds kind h =
    let q = and_parts (leb 4 kind) (leb kind 6) h in
    pick (leb-true 4 kind q.0) (leb-true kind 6 q.1)
  where
    pick : 4 ≤ kind → kind ≤ 6 → (kind ≡ 4) ⊎ ((kind ≡ 5) ⊎ (kind ≡ 6))
    pick a b = grind arith

pub front_ok : (P : FrameFields → Type 0) (lane : List FrameFields) → AllByRecursion P lane → eqb (length lane) 0 ≡ false → P (front lane)
front_ok P [] h e = absurd (true≢false e)
front_ok P (f ∷ fs) h e = h.0

module _ {S : Type 0} (z : Sizes) (meets : Meets z.cards) (H : Past) (s : State S) (d : ℕ → List EntryFields) (I : Inv z.cards H s d) (i : ℕ) where
  C : CardOk H z.cards i (view (s.cards i)) (s.logs i) (d i)
  C = I.card i

  own_ok : (kind : ℕ) → (kind ≡ 4) ⊎ ((kind ≡ 5) ⊎ (kind ≡ 6)) → eqb kind 6 && not (epoch_same (epoch_of (s.cards i).committed) (s.cards i).current) ≡ false → FrameOk H z.cards i (own_row (s.cards i) kind)
  own_ok kind (inl four) due = subst (λ k. FrameOk H z.cards i (own_row (s.cards i) k)) (sym four) (record { accept = λ _. record { led = acc_led C; accepted = omega (arith, ap (H.top i) (acc_num C), C.top_cur) }; vote = λ e. absurd (omega (arith, e)); commit = λ e. absurd (omega (arith, e)) })
  own_ok kind (inr (inl five)) due = subst (λ k. FrameOk H z.cards i (own_row (s.cards i) k)) (sym five) (record { accept = λ e. absurd (omega (arith, e)); vote = λ _. record { led = C.vote_led; cast = C.vote_cast; header = C.vote_head }; commit = λ e. absurd (omega (arith, e)) })
  own_ok kind (inr (inr six)) due = subst (λ k. FrameOk H z.cards i (own_row (s.cards i) k)) (sym six) (record { accept = λ e. absurd (omega (arith, e)); vote = λ e. absurd (omega (arith, e)); commit = λ _. record { led = C.com_led; chosen = C.com_chosen here; accepted = omega (arith, C.com_upto.count here, ap (H.top i) here, C.top_cur) } })
    where
      here : hn (s.cards i).committed ≡ en (s.cards i).current
      here = ap en (epoch_same_lem (epoch_of (s.cards i).committed) (s.cards i).current (not-false _ (subst (λ k. eqb k 6 && not (epoch_same (epoch_of (s.cards i).committed) (s.cards i).current) ≡ false) six due)))

  pub push_keeps : (j kind : ℕ) → Passed (push_checks z i j kind s) → Kept z.cards H (pushed i j kind s) d
  push_keeps j kind p =
      let kinds = row_kinds kind (not-false _ p.1.0) in (
        H,
        same_grows H,
        record {
          sound = I.sound;
          card = I.card;
          row = I.row;
          frame = lane_all (λ x y w f. AllByRecursion (FrameOk H z.cards x) f) i j kind (s.lanes i j kind ++ own_row (s.cards i) kind ∷ []) s.lanes (All-push (FrameOk H z.cards i) (s.lanes i j kind) (own_row (s.cards i) kind) (I.frame i j kind) (own_ok kind kinds p.1.1.1.0)) I.frame;
          waiting = lane_other (λ x y f. Waiting H z.cards x y f) i j kind (s.lanes i j kind ++ own_row (s.cards i) kind ∷ []) s.lanes (λ q. omega (arith, q, kinds)) I.waiting;
        },
      )

  stored_rows : (j : ℕ) (f : FrameFields) → suc (j - 1) ≡ j → FrameOk H z.cards j f → (f.kind ≡ 4) ⊎ ((f.kind ≡ 5) ⊎ (f.kind ≡ 6)) → (k : ℕ) → RowOk H z.cards (suc k) (get_or (stored (s.cards i).peers j f).rows k blank_row)
  stored_rows j f place ok kinds = by (eqb f.kind 4) refl (eqb f.kind 5) refl
    where
      old : RowOk H z.cards (suc (j - 1)) (row_of (s.cards i).peers j)
      old = row_ok H z.cards I.sound (s.cards i).peers (I.row i) j

      by : (a : Bool) → eqb f.kind 4 ≡ a → (b : Bool) → eqb f.kind 5 ≡ b → (k : ℕ) → RowOk H z.cards (suc k) (get_or (cond a (store_accept (s.cards i).peers j (fields.header_of f)) (cond b (store_vote (s.cards i).peers j (fields.epoch_of f, fields.words_header f)) (store_commit (s.cards i).peers j (fields.header_of f)))).rows k blank_row)
      by true a b e = put_ok H z.cards I.sound (s.cards i).peers (I.row i) j _ (record { accept = subst (λ x. AcceptOk H x (fields.header_of f)) (sym place) (ok.accept (eqb-true _ _ a)); vote = old.vote; commit = old.commit })
      by false a true e = put_ok H z.cards I.sound (s.cards i).peers (I.row i) j _ (record { accept = old.accept; vote = subst (λ x. VoteOk H x (fields.epoch_of f, fields.words_header f)) (sym place) (ok.vote (eqb-true _ _ e)); commit = old.commit })
      by false a false e = put_ok H z.cards I.sound (s.cards i).peers (I.row i) j _ (record { accept = old.accept; vote = old.vote; commit = subst (λ x. CommitOk H z.cards x (fields.header_of f)) (sym place) (ok.commit (third kinds)) })
        where
          third : (f.kind ≡ 4) ⊎ ((f.kind ≡ 5) ⊎ (f.kind ≡ 6)) → f.kind ≡ 6
          third (inl q) = absurd (eqb-false _ _ a q)
          third (inr (inl q)) = absurd (eqb-false _ _ e q)
          third (inr (inr q)) = q

  pub look_keeps : (j kind : ℕ) → Passed (look_checks z i j kind s) → Kept z.cards H (looked i j kind s) d
  look_keeps j kind p =
      let kinds = row_kinds kind (not-false _ p.1.0) in
      let t = looked i j kind s in (
        H,
        same_grows H,
        acted z.cards meets H H s t d d I (same_grows H) I.sound i (λ j _. same_still H j) card (s.logs i) (d i)
            (record { card = at_same i card s.cards; log_is = refl; list_is = refl; cards = λ j ne. at_other i card s.cards j ne; logs = λ _ _. refl; lists = λ _ _. refl })
            C (stored_rows j (front (s.lanes j i kind)) (peer_place z i j p.0) (front_ok (FrameOk H z.cards j) (s.lanes j i kind) (I.frame j i kind) p.1.1.1.0) (subst (λ k. (k ≡ 4) ⊎ ((k ≡ 5) ⊎ (k ≡ 6))) (sym (eqb-true _ _ (not-false _ p.1.1.1.1.0))) kinds))
            (lane_all (λ x y w f. AllByRecursion (FrameOk H z.cards x) f) j i kind (drop 1 (s.lanes j i kind)) s.lanes (All-drop (FrameOk H z.cards j) 1 (s.lanes j i kind) (I.frame j i kind)) I.frame)
            (lane_other (λ x y f. Waiting H z.cards x y f) j i kind (drop 1 (s.lanes j i kind)) s.lanes (λ q. omega (arith, q, kinds)) I.waiting),
      )
    where
      card : Card
      card = with_peers (stored (s.cards i).peers j (front (s.lanes j i kind))) (s.cards i)

  pub stop_keeps : Kept z.cards H (with_card i (stopped_card (s.cards i)) s) d
  stop_keeps =
      let c = stopped_card (s.cards i) in
      let t = with_card i c s in (
        H,
        same_grows H,
        acted z.cards meets H H s t d d I (same_grows H) I.sound i (λ j _. same_still H j) c (s.logs i) (d i)
            (record { card = at_same i c s.cards; log_is = refl; list_is = refl; cards = λ j ne. at_other i c s.cards j ne; logs = λ _ _. refl; lists = λ _ _. refl })
            C (I.row i) I.frame I.waiting,
      )
