-- submit keeps the invariant.
use Rattle.std.proofs.Common.{◌≡◌, ℕ, ◌+◌, ◌/◌, ◌%◌, ◌<◌, true, false, List, [], ◌∷◌, ◌++◌, length, take, sym, refl, ap, ◌∙◌, arith}
use Rattle.std.proofs.lemmas.List.{append_assoc, length_push, take-append-le, take_all}
use Rattle.std.proofs.lemmas.Bool.{true≢false, not-false}
use Rattle.marks.specs.Kinds.{Epoch}
use Rattle.frames.specs.Fields.{Words, EntryFields}
use Rattle.protocol.specs.Rack.{Sizes, State, is_electing, is_leader}
use Rattle.protocol.specs.Booking.{place_after, booked, accepted_up_to, submit_checks, submitted}
use Rattle.protocol.specs.declared.card.Role.{Role}
use Rattle.protocol.specs.declared.card.Role.TheVariants.{Electing, Leader, Follower}
use Rattle.laws.proofs.Base.{en, at_same, at_other, leader_num, round_num}
use Rattle.laws.proofs.Inv.{Past, Numbered, view, CardOk, Inv}
use Rattle.laws.proofs.Past.{Meets, numbered_more}
use Rattle.laws.proofs.Moves.{moved, Move, moved_grows, moved_sound, moved_still}
use Rattle.protocol.proofs.Asked.{Passed}
use Rattle.laws.proofs.Keep.{card_within, acted, frames_keep, waits_keep, rows_keep}
use Rattle.laws.proofs.KeepVoting.{Kept}
use Rattle.laws.proofs.KeepMoved.{moved_card, move_within}

pub leader_settled : (r : Role) → is_leader r ≡ true → is_electing r ≡ false
leader_settled Electing h = absurd (true≢false (sym h))
leader_settled Leader h = refl
leader_settled Follower h = absurd (true≢false (sym h))

module _ {S : Type 0} (z : Sizes) (meets : Meets z.cards) (H : Past) (s : State S) (d : ℕ → List EntryFields) (I : Inv z.cards H s d) (i queue : ℕ) (payload : Words) (p : Passed (submit_checks z i queue s)) where
  C : CardOk H z.cards i (view (s.cards i)) (s.logs i) (d i)
  C = I.card i

  leading : is_leader (s.cards i).role ≡ true
  leading = not-false _ p.1.1.1.0

  settled : is_electing (s.cards i).role ≡ false
  settled = leader_settled _ leading

  abbrev e : ℕ
  e = en (s.cards i).current

  abbrev x : EntryFields
  x = booked (s.cards i) queue payload

  above : 0 < en (s.cards i).current
  above = omega (arith, C.leads leading, (card_within z i p.0).0)

  leads : en (s.cards i).current % 8 ≡ i
  leads = leader_num (s.cards i).current.0 (s.cards i).current.1 C.cur_led ∙ C.leads leading

  all_sent : (s.cards i).accepted.2 ≡ length (H.sent e)
  all_sent = C.leads_all leading

  header_is : x.header ≡ (e / 8, e % 8, 1 + length (H.sent e))
  header_is =
      let a : (s.cards i).accepted.0 ≡ e / 8 = ap (λ (y : Epoch). y.0) C.acc_cur ∙ sym (round_num (s.cards i).current.0 (s.cards i).current.1 C.cur_led) in
      let b : (s.cards i).accepted.1 ≡ e % 8 = ap (λ (y : Epoch). y.1) C.acc_cur ∙ sym (leader_num (s.cards i).current.0 (s.cards i).current.1 C.cur_led) in
      let c : (s.cards i).accepted.2 + 1 ≡ 1 + length (H.sent e) = omega (arith, all_sent) in
      λ t. (a t, b t, c t)

  numbered : Numbered e 1 (H.sent e ++ x ∷ [])
  numbered = numbered_more e 1 (H.sent e) x (I.sound.numbered e C.cur_won) header_is

  move : Move H z.cards i e ((s.cards i).accepted.2 + 1) (H.start e) (H.sent e ++ x ∷ [])
  move = move_within H z.cards i e ((s.cards i).accepted.2 + 1) (H.sent e ++ x ∷ []) I.sound C.cur_won above
      (omega (arith, length_push (H.sent e) x)) (λ m l. take-append-le m (H.sent e) (x ∷ []) l) (omega (arith, length_push (H.sent e) x, all_sent)) (omega (arith, C.top_cur)) numbered (λ y c. omega (arith, C.cast_below y c, ap en (C.entered settled))) (λ ne. absurd (ne leads))

  log_is : s.logs i ++ x ∷ [] ≡ H.start e ++ take ((s.cards i).accepted.2 + 1) (H.sent e ++ x ∷ [])
  log_is =
      ap (λ ys. ys ++ x ∷ []) (C.log_is ∙ ap (λ ys. H.start e ++ ys) (take_all (s.cards i).accepted.2 (H.sent e) (omega (arith, all_sent))))
      ∙ append_assoc (H.start e) (H.sent e) (x ∷ [])
      ∙ ap (λ ys. H.start e ++ ys) (sym (take_all ((s.cards i).accepted.2 + 1) (H.sent e ++ x ∷ []) (omega (arith, length_push (H.sent e) x, all_sent))))

  pub submit_keeps : Kept z.cards H (submitted i queue payload s) d
  submit_keeps =
      let sn = H.sent e ++ x ∷ [] in
      let k = (s.cards i).accepted.2 + 1 in
      let c = accepted_up_to (place_after (s.cards i).accepted) (s.cards i) in
      let K = moved H i e k (H.start e) sn in
      let G = moved_grows H z.cards i e k (H.start e) sn I.sound move in
      let W = moved_sound H z.cards i e k (H.start e) sn I.sound move in
      let t = submitted i queue payload s in (
        K,
        G,
        acted z.cards meets H K s t d d I G W i (moved_still H z.cards i e k (H.start e) sn I.sound move) c (s.logs i ++ x ∷ []) (d i)
            (record { card = at_same i c s.cards; log_is = at_same i (s.logs i ++ x ∷ []) s.logs; list_is = refl; cards = λ j ne. at_other i c s.cards j ne; logs = λ j ne. at_other i (s.logs i ++ x ∷ []) s.logs j ne; lists = λ _ _. refl })
            (moved_card H z.cards i (view (s.cards i)) (s.logs i) (d i) I.sound meets C (s.cards i).current (s.cards i).newest (place_after (s.cards i).accepted) (s.cards i).next (H.start e) sn move (s.cards i).role (s.logs i ++ x ∷ []) settled C.cur_led (C.entered settled) C.acc_cur C.next_cur
            (record { epoch = omega arith; count = λ _. omega arith }) (λ r. (C.leads r, omega (arith, length_push (H.sent e) x, all_sent))) log_is C.mark_next C.mark_open)
            (rows_keep z.cards meets H K s t d d I G W i) (frames_keep z.cards meets H K s t d d I G W) (waits_keep z.cards meets H K s t d d I G W),
      )
