-- win keeps the invariant.
use Rattle.std.proofs.Common.{◌≡◌, ℕ, suc, ◌%◌, ◌<◌, ◌≤◌, Bool, true, false, cond, ◌&&◌, eqb, leb, List, [], length, sym, refl, ap, ◌∙◌, subst, ⊎_elim, arith}
use Rattle.std.specs.List.{AllByRecursion}
use Rattle.std.proofs.ByRecursion.{All-weaker}
use Rattle.std.proofs.lemmas.List.{append-nil}
use Rattle.std.proofs.lemmas.Bool.{not-false, and_parts, leb-true, eqb-true, cases_lt}
use Rattle.marks.specs.Kinds.{Epoch, Header, Vote}
use Rattle.marks.specs.Order.{vote_up_to}
use Rattle.marks.specs.Rows.{count_between}
use Rattle.marks.specs.Orders.{vote_order}
use Rattle.frames.specs.Fields.{EntryFields}
use Rattle.protocol.specs.Rows.{majority, row_of, vote_of, vote_rows, forget_shipped}
use Rattle.protocol.specs.Rack.{Sizes, State, with_card, is_electing}
use Rattle.protocol.specs.Voting.{won_by, win_checks}
use Rattle.protocol.specs.declared.card.Role.TheVariants.{Leader}
use Rattle.laws.specs.Laws.{Rising}
use Rattle.laws.proofs.Base.{en, hn, how_many, at_same, at_other, leader_num}
use Rattle.laws.proofs.Inv.{Past, hist, UpTo, Before, view, CardOk, VoteOk, Inv}
use Rattle.laws.proofs.Past.{Meets, hist_upto, hist_rising}
use Rattle.laws.proofs.Carry.{row_keeps}
use Rattle.laws.proofs.Moves.{moved, Move, moved_grows, moved_sound, moved_still}
use Rattle.protocol.proofs.Asked.{Passed}
use Rattle.laws.proofs.Keep.{card_within, acted, frames_keep, waits_keep, count_bound}
use Rattle.laws.proofs.Tables.{TableOk, peer_row, forget_ok}
use Rattle.laws.proofs.KeepVoting.{Kept, acc_num}
use Rattle.laws.proofs.KeepMoved.{moved_card}

module _ {S : Type 0} (z : Sizes) (meets : Meets z.cards) (H : Past) (s : State S) (d : ℕ → List EntryFields) (I : Inv z.cards H s d) (i : ℕ) (p : Passed (win_checks z i s)) where
  C : CardOk H z.cards i (view (s.cards i)) (s.logs i) (d i)
  C = I.card i

  elects : is_electing (s.cards i).role ≡ true
  elects = not-false _ p.1.1.0

  tests : (eqb (s.cards i).vote.0.1 i ≡ true) × (leb (majority z.cards) (count_between vote_up_to (s.cards i).vote (s.cards i).vote (vote_rows z.cards i (s.cards i).vote (s.cards i).peers)) ≡ true)
  tests = and_parts _ _ (not-false _ p.1.1.1.0)

  vote_is : (s.cards i).vote.0 ≡ (s.cards i).newest
  vote_is = C.voting elects

  own : (s.cards i).vote.0.1 ≡ i
  own = eqb-true _ _ tests.0

  pub led : (s.cards i).newest.1 ≡ i
  led = ap (λ (x : Epoch). x.1) (sym vote_is) ∙ own

  pub above : 0 < en (s.cards i).newest
  above = omega (arith, led, (card_within z i p.0).0)

  leads : en (s.cards i).newest % 8 ≡ i
  leads = leader_num (s.cards i).newest.0 (s.cards i).newest.1 C.new_led ∙ led

  higher : en (s.cards i).current < en (s.cards i).newest
  higher = C.voting_above elects above

  fresh : H.won (en (s.cards i).newest) ≡ true → ⊥
  fresh w = omega (arith, higher, C.won_led _ w above leads)

  head_is : H.head (en (s.cards i).newest) ≡ (s.cards i).accepted
  head_is = ap (λ x. H.head (en x)) (sym vote_is) ∙ sym C.vote_head ∙ C.own_vote elects own

  -- a row equal to the vote is a vote of its card for this epoch
  equal_vote : (j : ℕ) (v : Vote) → VoteOk H j v → vote_up_to (s.cards i).vote v && vote_up_to v (s.cards i).vote ≡ true → H.cast j (en (s.cards i).newest) ≡ true
  equal_vote j v ok t =
      let q = and_parts _ _ t in
      let same : v ≡ (s.cards i).vote = vote_order.settles v (s.cards i).vote q.1 q.0 in
      subst (λ x. H.cast j (en x) ≡ true) (ap (λ (x : Vote). x.0) same ∙ vote_is) ok.cast

  voted : majority z.cards ≤ how_many (λ q. H.cast (suc q) (en (s.cards i).newest)) z.cards
  voted = omega (arith, leb-true _ _ tests.1, count_bound vote_up_to (s.cards i).vote (s.cards i).vote (vote_of i (s.cards i).vote (s.cards i).peers) z.cards (λ q. H.cast (suc q) (en (s.cards i).newest)) (λ k. equal_vote (suc k) _ (each k)))
    where
      each : (k : ℕ) → VoteOk H (suc k) (vote_of i (s.cards i).vote (s.cards i).peers (suc k))
      each k = by (eqb (suc k) i) refl
        where
          by : (b : Bool) → eqb (suc k) i ≡ b → VoteOk H (suc k) (cond b (s.cards i).vote (row_of (s.cards i).peers (suc k)).vote)
          by true e = subst (λ x. VoteOk H x (s.cards i).vote) (sym (eqb-true (suc k) i e)) (record { led = C.vote_led; cast = C.vote_cast; header = C.vote_head })
          by false e = (peer_row H z.cards I.sound (s.cards i).peers (I.row i) k).vote

  move : Move H z.cards i (en (s.cards i).newest) 0 (s.logs i) []
  move = record {
    above = above;
    same_start = λ w. absurd (fresh w);
    longer = λ w. absurd (fresh w);
    same_sent = λ _ w _. absurd (fresh w);
    held = omega arith;
    higher = ⊎_elim (λ t. absurd (omega (arith, higher, C.top_below _ t))) (λ t. omega arith) (cases_lt 0 (H.top i (en (s.cards i).newest)));
    before = subst (AllByRecursion (Before (en (s.cards i).newest))) (sym C.log_is) (All-weaker (UpTo (en (s.cards i).current) (s.cards i).accepted.2) (Before (en (s.cards i).newest)) (λ x u. record { led = u.led; counted = u.counted; below = omega (arith, u.upto.epoch, higher) }) _ (hist_upto H z.cards I.sound _ _ C.cur_won));
    rising = subst Rising (sym C.log_is) (hist_rising H z.cards I.sound _ _ C.cur_won);
    numbered = tt;
    voted = voted;
    own = subst (λ x. H.cast x (en (s.cards i).newest) ≡ true) (sym leads) (subst (λ x. H.cast i (en x) ≡ true) vote_is C.vote_cast);
    begun = C.log_is ∙ ap (λ x. hist H x (s.cards i).accepted.2) (sym (acc_num C)) ∙ ap (λ (h : Header). hist H (hn h) h.2) (sym head_is);
    from_won = subst (λ (h : Header). H.won (hn h) ≡ true) (sym head_is) (subst (λ x. H.won x ≡ true) (sym (acc_num C)) C.cur_won);
    from_held = subst (λ (h : Header). h.2 ≤ length (H.sent (hn h))) (sym head_is) (subst (λ x. (s.cards i).accepted.2 ≤ length (H.sent x)) (sym (acc_num C)) C.acc_sent);
    last_cast = C.cast_below;
    leader = λ ne. absurd (ne leads);
  }

  pub win_keeps : Kept z.cards H (with_card i (won_by (s.cards i)) s) d
  win_keeps =
      let K = moved H i (en (s.cards i).newest) 0 (s.logs i) [] in
      let G = moved_grows H z.cards i (en (s.cards i).newest) 0 (s.logs i) [] I.sound move in
      let W = moved_sound H z.cards i (en (s.cards i).newest) 0 (s.logs i) [] I.sound move in
      let t = with_card i (won_by (s.cards i)) s in (
        K,
        G,
        acted z.cards meets H K s t d d I G W i (moved_still H z.cards i (en (s.cards i).newest) 0 (s.logs i) [] I.sound move) (won_by (s.cards i)) (s.logs i) (d i)
            (record { card = at_same i (won_by (s.cards i)) s.cards; log_is = refl; list_is = refl; cards = λ j ne. at_other i (won_by (s.cards i)) s.cards j ne; logs = λ _ _. refl; lists = λ _ _. refl })
            (moved_card H z.cards i (view (s.cards i)) (s.logs i) (d i) I.sound meets C (s.cards i).newest (s.cards i).newest ((s.cards i).newest.0, (s.cards i).newest.1, 0) ((s.cards i).newest.0, (s.cards i).newest.1, 0) (s.logs i) [] move Leader (s.logs i) refl C.new_led refl refl refl
            (record { epoch = omega (arith, higher); count = λ q. absurd (omega (arith, q, higher)) }) (λ _. (led, refl)) (sym (append-nil (s.logs i))) (λ q. absurd (omega (arith, q))) (λ _ q. absurd (omega (arith, q, C.mark_upto.epoch, higher))))
            rows (frames_keep z.cards meets H K s t d d I G W) (waits_keep z.cards meets H K s t d d I G W),
      )
    where
      K : Past
      K = moved H i (en (s.cards i).newest) 0 (s.logs i) []

      rows : TableOk K z.cards (forget_shipped (s.cards i).peers)
      rows = forget_ok K z.cards (moved_sound H z.cards i (en (s.cards i).newest) 0 (s.logs i) [] I.sound move) 7 (s.cards i).peers (λ k. row_keeps H K z.cards (moved_grows H z.cards i (en (s.cards i).newest) 0 (s.logs i) [] I.sound move) (suc k) _ (I.row i k))
