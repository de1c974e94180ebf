-- timeout, elect and win keep the invariant.
use Rattle.std.proofs.Common.{◌≡◌, ℕ, suc, ◌+◌, ◌-◌, ◌*◌, ◌%◌, ◌<◌, ◌≤◌, Bool, true, false, cond, ◌&&◌, eqb, ltb, leb, List, is_err, Ok, Err, Result, sym, refl, ap, ◌∙◌, subst, inl, inr, ⊎_elim, arith}
use Rattle.std.specs.Result.{result_unwrap_or}
use Rattle.std.specs.List.{AllByRecursion}
use Rattle.std.proofs.lemmas.Bool.Decides.{nat_tests}
use Rattle.std.proofs.lemmas.Bool.{and_parts, leb-true, true≢false, not-false, ltb-true, leb-false, not-true, cases_order}
use Rattle.refusals.specs.declared.Refusal.{Refusal}
use Rattle.refusals.specs.declared.Refusal.TheVariants.{NoSuchCard, UsedUp}
use Rattle.marks.specs.Kinds.{Epoch, Header, Vote}
use Rattle.marks.specs.Least.{least_epoch}
use Rattle.marks.specs.Orders.{vote_order}
use Rattle.marks.specs.Order.{left_first, epoch_up_to, header_up_to, vote_up_to}
use Rattle.frames.specs.Fields.{EntryFields}
use Rattle.protocol.specs.Rows.{row_of, vote_of, vote_rows}
use Rattle.protocol.specs.Rack.{Sizes, State, at, with_card, is_electing}
use Rattle.protocol.specs.Voting.{largest_vote, later_epoch, standing_epoch, stood_in, timeout_epoch, timed_out, timeout_checks, stands, joins, joined_to, elected, elect_checks}
use Rattle.protocol.specs.declared.card.Card.{Card}
use Rattle.protocol.specs.declared.card.Role.{Role}
use Rattle.protocol.specs.declared.card.Role.TheVariants.{Electing}
use Rattle.laws.proofs.Base.{en, hn, Up, at_same, at_other, at_all, upto_num, same_num, leader_num, header_below_false, and_second}
use Rattle.laws.proofs.Inv.{Past, Sound, View, view, CardOk, VoteOk, Inv, Grows}
use Rattle.laws.proofs.Past.{Meets}
use Rattle.laws.proofs.Moves.{balloted, Ballot, balloted_still, balloted_grows, balloted_sound}
use Rattle.protocol.proofs.Asked.{Passed}
use Rattle.protocol.proofs.Cards.{not_both, each_row, largest_one}
use Rattle.laws.proofs.Keep.{same_grows, same_still, Acted, acted, frames_keep, waits_keep, rows_keep}
use Rattle.laws.proofs.Tables.{row_ok}

-- what a call leaves: a past that has grown, and the invariant
abbrev pub Kept : {S : Type 0} → ℕ → Past → State S → (ℕ → List EntryFields) → Type 0
Kept n H s d = (K : Past) × Grows H K × Inv n K s d

-- an epoch that the card leads, above another
record LedOver (i : ℕ) (above e : Epoch) : Type 0 where
  led : e.1 ≡ i
  small : e.1 < 8
  over : en above < en e

abbrev least_for : ℕ → Epoch → Bool → Bool → Bool → Result Epoch Refusal
least_for i above a b c = cond a (cond b (Ok (above.0, i)) (cond c (Ok (above.0 + 1, i)) (Err UsedUp))) (Err NoSuchCard)

least_over : (i : ℕ) (above d : Epoch) → above.1 < 8 → is_err (least_epoch i above) ≡ false → LedOver i above (result_unwrap_or (least_epoch i above) d)
least_over i above d h ok = by (leb 1 i && leb i 7) refl (ltb above.1 i) refl (ltb above.0 4294967295) refl ok
  where
    card : leb 1 i && leb i 7 ≡ true → i ≤ 7
    card t = leb-true i 7 (and_parts (leb 1 i) (leb i 7) t).1

    by : (a : Bool) → leb 1 i && leb i 7 ≡ a → (b : Bool) → ltb above.1 i ≡ b → (c : Bool) → ltb above.0 4294967295 ≡ c → is_err (least_for i above a b c) ≡ false → LedOver i above (result_unwrap_or (least_for i above a b c) d)
    by true a true b c e ok = record { led = refl; small = omega (arith, card a); over = omega (arith, ltb-true above.1 i b) }
    by true a false b true e ok = record { led = refl; small = omega (arith, card a); over = omega (arith, h) }
    by true a false b false e ok = absurd (true≢false ok)
    by false a b c d e ok = absurd (true≢false ok)

later_upto : (a b : Epoch) → a.1 < 8 → b.1 < 8 → ((later_epoch a b).1 < 8) × (en a ≤ en (later_epoch a b)) × (en b ≤ en (later_epoch a b))
later_upto a b h k = by (epoch_up_to a b) (upto_num a.0 a.1 b.0 b.1 h k)
  where
    by : (t : Bool) → t ≡ leb (en a) (en b) → ((cond t b a).1 < 8) × (en a ≤ en (cond t b a)) × (en b ≤ en (cond t b a))
    by true e = (k, leb-true (en a) (en b) (sym e), omega arith)
    by false e = (h, omega arith, omega (arith, leb-false (en a) (en b) (sym e)))

module _ {H : Past} {n i : ℕ} {v : View} {log d : List EntryFields} (C : CardOk H n i v log d) where
  pub acc_num : hn v.accepted ≡ en v.current
  acc_num = ap en C.acc_cur

  pub acc_led : v.accepted.1 < 8
  acc_led = subst (λ (e : Epoch). e.1 < 8) (sym C.acc_cur) C.cur_led

  -- a card's accepted header is at least all that it accepted
  pub accepted_most : (E k : ℕ) → k < H.top i E → Up E k (hn v.accepted) v.accepted.2
  accepted_most E k t = record { epoch = omega (arith, C.top_below E (omega (arith, t)), acc_num); count = λ q. omega (arith, t, ap (H.top i) (q ∙ acc_num), C.top_cur) }

module _ (H : Past) (n i : ℕ) (v : View) (log d : List EntryFields) (W : Sound H n) (C : CardOk H n i v log d) where
  -- a ballot for an epoch above the card's newest one that the card leads
  own_ballot : (e : Epoch) → e.1 ≡ i → e.1 < 8 → en v.newest < en e → Ballot H i (en e) v.accepted
  own_ballot e led small over = record {
    led = acc_led C;
    below = omega (arith, acc_num C, C.cur_new, over);
    agrees = λ j c. absurd (fresh j c);
    leader = inl leads;
    promise = λ E k _ t. accepted_most C E k t;
  }
    where
      leads : en e % 8 ≡ i
      leads = leader_num e.0 e.1 small ∙ led

      fresh : (j : ℕ) → H.cast j (en e) ≡ true → ⊥
      fresh j c = omega (arith, over, C.cast_below (en e) (subst (λ x. H.cast x (en e) ≡ true) leads (W.leader_cast j (en e) c (omega (arith, over)))))

  own_cast : (e : ℕ) (h : Header) → (balloted H i e h).cast i e ≡ true
  own_cast e h = ap (λ (f : ℕ → Bool). f e) (at_same i (at e true (H.cast i)) H.cast) ∙ at_same e true (H.cast i)

  cast_upto : (e : ℕ) (h : Header) → en v.newest ≤ e → (x : ℕ) → (balloted H i e h).cast i x ≡ true → x ≤ e
  cast_upto e h le x c = at_all (λ x b. b ≡ true → x ≤ e) e true (H.cast i) (λ _. omega arith) (λ x _ t. omega (arith, le, C.cast_below x t)) x (sym (ap (λ (f : ℕ → Bool). f x) (at_same i (at e true (H.cast i)) H.cast)) ∙ c)

  -- the card's clauses with another vote, in a higher epoch
  voted_card : (role : Role) (e : Epoch) (h : Header) → e.1 < 8 → en v.newest < en e → is_electing role ≡ true → (e.1 ≡ i → h ≡ v.accepted) → CardOk (balloted H i (en e) h) n i (record { role = role; current = v.current; newest = e; accepted = v.accepted; committed = v.committed; next = v.next; vote = (e, h) }) log d
  voted_card role e h small over elects mine = record {
    cur_led = C.cur_led;
    new_led = small;
    com_led = C.com_led;
    cur_new = omega (arith, C.cur_new, over);
    entered = λ r. absurd (true≢false (sym elects ∙ r));
    voting = λ _. refl;
    voting_above = λ _ _. omega (arith, C.cur_new, over);
    acc_cur = C.acc_cur;
    next_cur = C.next_cur;
    cur_won = C.cur_won;
    acc_sent = C.acc_sent;
    log_is = C.log_is;
    leads = λ r. absurd (not_both role elects r);
    leads_all = λ r. absurd (not_both role elects r);
    top_cur = C.top_cur;
    top_below = C.top_below;
    cast_below = cast_upto (en e) h (omega (arith, over));
    vote_led = small;
    vote_cast = own_cast (en e) h;
    vote_head = sym (at_same (en e) h H.head);
    own_vote = λ _ q. mine q;
    won_led = C.won_led;
    mark_chosen = C.mark_chosen;
    mark_upto = C.mark_upto;
    mark_next = C.mark_next;
    mark_open = C.mark_open;
    list_is = C.list_is;
    com_last = C.com_last;
    com_chosen = C.com_chosen;
    com_upto = C.com_upto;
  }

below_left : (r l q m : ℕ) (b : Bool) → l < 8 → m < 8 → r * 8 + l < q * 8 + m → left_first r q (left_first l m b) ≡ true
below_left r l q m b h k lt = grind (arith, nat_tests)

-- a vote above another is for a higher epoch, where an epoch has one header in all its votes
vote_above : (m v : Vote) → m.0.1 < 8 → v.0.1 < 8 → vote_up_to m v ≡ false → (en m.0 ≡ en v.0 → m ≡ v) → en v.0 < en m.0
vote_above m v h k not_upto one = ⊎_elim equal (⊎_elim less (λ l. l)) (cases_order (en m.0) (en v.0))
  where
    equal : en m.0 ≡ en v.0 → en v.0 < en m.0
    equal q = absurd (true≢false (sym (⊎_elim (λ t. t) (λ t. t) (vote_order.compares v v)) ∙ subst (λ x. vote_up_to x v ≡ false) (one q) not_upto))

    less : en m.0 < en v.0 → en v.0 < en m.0
    less l = absurd (true≢false (sym (below_left m.0.0 m.0.1 v.0.0 v.0.1 (header_up_to m.1 v.1) h k l) ∙ not_upto))

pub up_trans : {a b c d e f : ℕ} → Up a b c d → Up c d e f → Up a b e f
up_trans u w = record { epoch = omega (arith, u.epoch, w.epoch); count = λ q. omega (arith, u.count (omega (arith, u.epoch, w.epoch)), w.count (omega (arith, u.epoch, w.epoch))) }

module _ {S : Type 0} (z : Sizes) (meets : Meets z.cards) (H : Past) (s : State S) (d : ℕ → List EntryFields) (I : Inv z.cards H s d) (i : ℕ) where
  only_card : (c' : Card) → Acted i s (with_card i c' s) d d c' (s.logs i) (d i)
  only_card c' = record { card = at_same i c' s.cards; log_is = refl; list_is = refl; cards = λ j ne. at_other i c' s.cards j ne; logs = λ _ _. refl; lists = λ _ _. refl }

  -- every vote that the card knows was cast by some card
  abbrev Cast : Vote → Type 0
  Cast v = (j : ℕ) × VoteOk H j v

  own_cast_ok : Cast (s.cards i).vote
  own_cast_ok = (i, record { led = (I.card i).vote_led; cast = (I.card i).vote_cast; header = (I.card i).vote_head })

  all_cast : AllByRecursion Cast (vote_rows z.cards i (s.cards i).vote (s.cards i).peers)
  all_cast = each_row Cast (vote_of i (s.cards i).vote (s.cards i).peers) z.cards each
    where
      each : (j : ℕ) → Cast (vote_of i (s.cards i).vote (s.cards i).peers j)
      each j = by (eqb j i)
        where
          by : (b : Bool) → Cast (cond b (s.cards i).vote (row_of (s.cards i).peers j).vote)
          by true = own_cast_ok
          by false = (suc (j - 1), (row_ok H z.cards I.sound (s.cards i).peers (I.row i) j).vote)

  largest_cast : Cast (largest_vote z i (s.cards i))
  largest_cast = largest_one Cast vote_up_to (s.cards i).vote _ own_cast_ok all_cast

  stood_keeps : (e : Epoch) → LedOver i (s.cards i).newest e → Kept z.cards H (with_card i (stood_in e (s.cards i)) s) d
  stood_keeps e L =
      let B = own_ballot H z.cards i (view (s.cards i)) (s.logs i) (d i) I.sound (I.card i) e L.led L.small L.over in
      let G = balloted_grows H z.cards i (en e) (s.cards i).accepted I.sound B in
      let W = balloted_sound H z.cards i (en e) (s.cards i).accepted I.sound B in
      let K = balloted H i (en e) (s.cards i).accepted in
      let t = with_card i (stood_in e (s.cards i)) s in (
        K,
        G,
        acted z.cards meets H K s t d d I G W i (balloted_still H i (en e) (s.cards i).accepted) (stood_in e (s.cards i)) (s.logs i) (d i) (only_card (stood_in e (s.cards i)))
            (voted_card H z.cards i (view (s.cards i)) (s.logs i) (d i) I.sound (I.card i) Electing e (s.cards i).accepted L.small L.over refl (λ _. refl))
            (rows_keep z.cards meets H K s t d d I G W i) (frames_keep z.cards meets H K s t d d I G W) (waits_keep z.cards meets H K s t d d I G W),
      )

  standing_over : is_err (standing_epoch z i (s.cards i)) ≡ false → LedOver i (s.cards i).newest (timeout_epoch z i (s.cards i))
  standing_over ok =
      let m = largest_vote z i (s.cards i) in
      let u = later_upto (s.cards i).newest m.0 (I.card i).new_led largest_cast.1.led in
      let l = least_over i (later_epoch (s.cards i).newest m.0) (s.cards i).newest u.0 ok in
      record { led = l.led; small = l.small; over = omega (arith, u.1, l.over) }

  pub timeout_keeps : Passed (timeout_checks z i s) → Kept z.cards H (with_card i (timed_out z i (s.cards i)) s) d
  timeout_keeps p = stood_keeps (timeout_epoch z i (s.cards i)) (standing_over p.1.1.0)

  stays_keeps : Kept z.cards H (with_card i (s.cards i) s) d
  stays_keeps =
      let t = with_card i (s.cards i) s in
      (H, same_grows H, acted z.cards meets H H s t d d I (same_grows H) I.sound i (λ j _. same_still H j) (s.cards i) (s.logs i) (d i) (only_card (s.cards i)) (I.card i) (I.row i) I.frame I.waiting)

  joined_keeps : is_electing (s.cards i).role ≡ true → stands z i (s.cards i) ≡ false → joins z i (s.cards i) ≡ true → Kept z.cards H (with_card i (joined_to (largest_vote z i (s.cards i)) (s.cards i)) s) d
  joined_keeps elects low high =
      let W = balloted_sound H z.cards i (en e) h I.sound B in
      let G = balloted_grows H z.cards i (en e) h I.sound B in
      let K = balloted H i (en e) h in
      let t = with_card i (joined_to m (s.cards i)) s in (
        K,
        G,
        acted z.cards meets H K s t d d I G W i (balloted_still H i (en e) h) (joined_to m (s.cards i)) (s.logs i) (d i) (only_card (joined_to m (s.cards i)))
            (voted_card H z.cards i (view (s.cards i)) (s.logs i) (d i) I.sound (I.card i) (s.cards i).role e h V.led over elects (λ q. absurd (not_mine q)))
            (rows_keep z.cards meets H K s t d d I G W i) (frames_keep z.cards meets H K s t d d I G W) (waits_keep z.cards meets H K s t d d I G W),
      )
    where
      m : Vote
      m = largest_vote z i (s.cards i)

      e : Epoch
      e = m.0

      h : Header
      h = m.1

      j : ℕ
      j = largest_cast.0

      V : VoteOk H j m
      V = largest_cast.1

      C : CardOk H z.cards i (view (s.cards i)) (s.logs i) (d i)
      C = I.card i

      same : en e ≡ en (s.cards i).vote.0 → m ≡ (s.cards i).vote
      same q =
          let p = same_num e.0 e.1 (s.cards i).vote.0.0 (s.cards i).vote.0.1 V.led C.vote_led q in
          let r : h ≡ (s.cards i).vote.1 = V.header ∙ ap H.head q ∙ sym C.vote_head in
          λ t. ((p.0 t, p.1 t), r t)

      over : en (s.cards i).newest < en e
      over = subst (λ x. en x < en e) (C.voting elects) (vote_above m (s.cards i).vote V.led C.vote_led (not-true _ high) same)

      led : h.1 < 8
      led = subst (λ (x : Header). x.1 < 8) (sym V.header) (I.sound.head_led j (en e) V.cast)

      B : Ballot H i (en e) h
      B = record {
        led = led;
        below = subst (λ (x : Header). hn x < en e) (sym V.header) (I.sound.head_below j (en e) V.cast (omega (arith, over)));
        agrees = λ _ _. sym V.header;
        leader = inr (I.sound.leader_cast j (en e) V.cast (omega (arith, over)));
        promise = λ E k _ t. up_trans (accepted_most C E k t) (header_below_false h.0 h.1 h.2 (s.cards i).accepted.0 (s.cards i).accepted.1 (s.cards i).accepted.2 led (acc_led C) low);
      }

      not_mine : e.1 ≡ i → ⊥
      not_mine q = omega (arith, over, C.cast_below (en e) (subst (λ x. H.cast x (en e) ≡ true) (leader_num e.0 e.1 V.led ∙ q) (I.sound.leader_cast j (en e) V.cast (omega (arith, over)))))

  pub elect_keeps : Passed (elect_checks z i s) → Kept z.cards H (with_card i (elected z i (s.cards i)) s) d
  elect_keeps p = by (stands z i (s.cards i)) refl (joins z i (s.cards i)) refl
    where
      elects : is_electing (s.cards i).role ≡ true
      elects = not-false _ p.1.1.0

      by : (a : Bool) → stands z i (s.cards i) ≡ a → (b : Bool) → joins z i (s.cards i) ≡ b → Kept z.cards H (with_card i (cond a (timed_out z i (s.cards i)) (cond b (joined_to (largest_vote z i (s.cards i)) (s.cards i)) (s.cards i))) s) d
      by true a b e = stood_keeps (timeout_epoch z i (s.cards i)) (standing_over (and_second _ _ a p.1.1.1.0))
      by false a true e = joined_keeps elects a e
      by false a false e = stays_keeps
