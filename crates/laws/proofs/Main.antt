-- The laws of every run.
use Rattle.std.proofs.Common.{◌≡◌, ℕ, zero, suc, ◌+◌, ◌<◌, ◌≤◌, true, ◌⊎◌, List, [], ◌∷◌, ◌++◌, length, get_or, sym, refl, ap, ◌∙◌, subst, inl, inr, ⊎_elim, arith}
use Rattle.std.specs.List.{AllByRecursion}
use Rattle.std.proofs.lemmas.List.{append_assoc, length-append, get_or_append_left}
use Rattle.std.proofs.ByRecursion.{All-get_or, all_kept_by}
use Rattle.std.proofs.lemmas.Bool.{not-false, cases_order, cases_lt, ltb-true, le-leb}
use Rattle.std.proofs.lemmas.Bool.Decides.{nat_tests}
use Rattle.marks.specs.Kinds.{Epoch, Header}
use Rattle.marks.specs.Order.{epoch_below, header_below}
use Rattle.frames.specs.Fields.{Words, EntryFields}
use Rattle.protocol.specs.Rack.{Sizes, State, opened, with_card, is_electing, is_leader}
use Rattle.protocol.specs.Voting as voting
use Rattle.protocol.specs.Booking as booking
use Rattle.protocol.specs.Committing as committing
use Rattle.protocol.specs.Committing.{reading, applied, due_entries}
use Rattle.protocol.specs.declared.answer.Answer.TheVariants.{ForEpoch, Placed}
use Rattle.protocol.specs.declared.card.Card.{Card}
use Rattle.protocol.specs.declared.call.Call.{Call}
use Rattle.protocol.specs.declared.call.Call.TheVariants.{Win, Submit, Commit}
use Rattle.laws.specs.Runs.{ItemAt, Happens, after, delivered_by, state_from, delivered_from, state_at, delivered_at, Wins, Submits, Delivers}
use Rattle.laws.specs.Laws.{IsRack, Begins, Rising, Agreement, Integrity, NoLostDelivery, Elections, Counts, CardRules}
use Rattle.laws.proofs.Base.{en, hn, Up, at_same, below_num, upto_num, leader_num, upto_header}
use Rattle.laws.proofs.Inv.{Past, hist, Chosen, view, CardOk, Inv, Grows}
use Rattle.laws.proofs.Past.{Meets, Starts, begins, hist_rising}
use Rattle.laws.proofs.Carry.{chosen_won, chosen_sent, hist_keeps, chosen_keeps}
use Rattle.protocol.proofs.Asked.{Passed, ask_keeps, ask_answered, ask_passed}
use Rattle.laws.proofs.KeepVoting.{acc_num, acc_led}
use Rattle.laws.proofs.KeepWin as winning
use Rattle.laws.proofs.KeepCommit.{reading_is}
use Rattle.laws.proofs.Opened.{no_past, opened_inv}
use Rattle.laws.proofs.Story.{moment, grows_from}
use Rattle.laws.proofs.Sources.{machine_from, tally_from, From, from_run}

-- two majorities of 3, 5 or 7 meet
rack_meets : (z : Sizes) → IsRack z → Meets z.cards
rack_meets z (inl three) = subst Meets (sym three) (omega arith)
rack_meets z (inr (inl five)) = subst Meets (sym five) (omega arith)
rack_meets z (inr (inr seven)) = subst Meets (sym seven) (omega arith)

epoch_of_lem : (a b : Epoch) → ForEpoch a ≡ ForEpoch b → a ≡ b
epoch_of_lem a b e = cc

header_of : (a b : Header) → Placed a ≡ Placed b → a ≡ b
header_of a b e = cc

-- positions of a rising list
rising_at : (xs : List EntryFields) (p q : ℕ) (x y : EntryFields) → Rising xs → p < q → ItemAt xs p x → ItemAt xs q y → header_below x.header y.header ≡ true
rising_at [] p q x y r l a b = absurd (omega (arith, a.0))
rising_at (w ∷ ws) zero zero x y r l a b = absurd (omega (arith, l))
rising_at (w ∷ ws) zero (suc q) x y r l a b = subst (λ v. header_below x.header v.header ≡ true) b.1 (subst (λ v. header_below v.header (get_or ws q y).header ≡ true) a.1 (All-get_or (λ (v : EntryFields). header_below w.header v.header ≡ true) ws q y (omega (arith, b.0)) r.0))
rising_at (w ∷ ws) (suc p) zero x y r l a b = absurd (omega (arith, l))
rising_at (w ∷ ws) (suc p) (suc q) x y r l a b = rising_at ws p q x y r.1 (omega (arith, l)) (omega (arith, a.0), a.1) (omega (arith, b.0), b.1)

not_below_self : (h : Header) → header_below h h ≡ true → ⊥
not_below_self h t = grind (arith, nat_tests)

item_begins : (xs ys rest : List EntryFields) (p : ℕ) (x : EntryFields) → ys ≡ xs ++ rest → ItemAt xs p x → ItemAt ys p x
item_begins xs ys rest p x e a = subst (λ zs. ItemAt zs p x) (sym e) (omega (arith, a.0, length-append xs rest), get_or_append_left xs rest x p a.0 ∙ a.1)

module _ {S : Type 0} (start : S) (apply : ℕ → Words → S → S) (z : Sizes) (rack : IsRack z) where
  meets : Meets z.cards
  meets = rack_meets z rack

  past : List Call → ℕ → Past
  past calls k = (moment start apply z meets calls (opened start) no_past (λ _. []) (opened_inv start z.cards) k).0

  inv : (calls : List Call) (k : ℕ) → Inv z.cards (past calls k) (state_at start apply z calls k) (delivered_at start apply z calls k)
  unfolding past
  inv calls k = (moment start apply z meets calls (opened start) no_past (λ _. []) (opened_inv start z.cards) k).2

  grows : (calls : List Call) (k l : ℕ) → k ≤ l → Grows (past calls k) (past calls l)
  unfolding past
  grows calls k l h = grows_from start apply z meets calls (opened start) no_past (λ _. []) (opened_inv start z.cards) k l h

  ok : (calls : List Call) (k i : ℕ) → CardOk (past calls k) z.cards i (view ((state_at start apply z calls k).cards i)) ((state_at start apply z calls k).logs i) (delivered_at start apply z calls k i)
  ok calls k i = (inv calls k).card i

  -- a call, and what comes next
  happens_from : (calls : List Call) (s : State S) (k : ℕ) (c : Call) → Happens calls k c → state_from start apply z s calls (suc k) ≡ after start apply z c (state_from start apply z s calls k)
  happens_from [] s k c h = elim h [ ]
  happens_from (d ∷ ds) s zero c h = ap (λ x. after start apply z x s) h
  happens_from (d ∷ ds) s (suc k) c h = happens_from ds (after start apply z d s) k c h

  longer_from : (calls : List Call) (s : State S) (k l i : ℕ) → k ≤ l → Begins (delivered_from start apply z s calls k i) (delivered_from start apply z s calls l i)
  longer_from calls s zero l i h = (delivered_from start apply z s calls l i, refl)
  longer_from [] s (suc k) zero i h = absurd (omega (arith, h))
  longer_from [] s (suc k) (suc l) i h = ([], refl)
  longer_from (c ∷ cs) s (suc k) zero i h = absurd (omega (arith, h))
  longer_from (c ∷ cs) s (suc k) (suc l) i h =
      let r = longer_from cs (after start apply z c s) k l i (omega (arith, h)) in
      (r.0, ap (λ ys. delivered_by start apply z c s i ++ ys) r.1 ∙ sym (append_assoc (delivered_by start apply z c s i) (delivered_from start apply z (after start apply z c s) cs k i) r.0))

  -- a delivered list is a chosen history of any later past, of an epoch up to a bound
  record History (calls : List Call) (m bound : ℕ) (list : List EntryFields) : Type 0 where
    epoch : ℕ
    count : ℕ
    within : epoch ≤ bound
    chosen : Chosen (past calls m) z.cards epoch count
    is : list ≡ hist (past calls m) epoch count

  history : (calls : List Call) (k m i : ℕ) → k ≤ m → History calls m (en ((state_at start apply z calls k).cards i).current) (delivered_at start apply z calls k i)
  history calls k m i h = record {
    epoch = ((past calls k).mark i).0;
    count = ((past calls k).mark i).1;
    within = (ok calls k i).mark_upto.epoch;
    chosen = chosen_keeps (past calls k) (past calls m) z.cards (grows calls k m h) _ _ (ok calls k i).mark_chosen;
    is = (ok calls k i).list_is ∙ sym (hist_keeps (past calls k) (past calls m) z.cards (grows calls k m h) _ _ (chosen_won (past calls k) z.cards (inv calls k).sound meets _ _ (ok calls k i).mark_chosen) (chosen_sent (past calls k) z.cards (inv calls k).sound meets _ _ (ok calls k i).mark_chosen));
  }

  history_begins : (calls : List Call) (m u v : ℕ) (xs ys : List EntryFields) (a : History calls m u xs) (b : History calls m v ys) → Up a.epoch a.count b.epoch b.count → Begins xs ys
  history_begins calls m _ _ xs ys a b u =
      let w = begins (past calls m) z.cards (inv calls m).sound meets a.epoch a.count b.epoch b.count a.chosen (chosen_won (past calls m) z.cards (inv calls m).sound meets _ _ b.chosen) u in
      (w.rest, b.is ∙ w.is ∙ ap (λ zs. zs ++ w.rest) (sym a.is))

  either : (a b c d : ℕ) → Up a b c d ⊎ Up c d a b
  either a b c d = ⊎_elim (λ e. ⊎_elim (λ l. inl (record { epoch = omega (arith, e); count = λ _. omega (arith, l) })) (λ l. inr (record { epoch = omega (arith, e); count = λ _. omega (arith, l) })) (cases_lt b d)) (⊎_elim (λ l. inl (record { epoch = omega (arith, l); count = λ q. absurd (omega (arith, l, q)) })) (λ l. inr (record { epoch = omega (arith, l); count = λ q. absurd (omega (arith, l, q)) }))) (cases_order a c)

  one_order : (calls : List Call) (k l i j : ℕ) → Begins (delivered_at start apply z calls k i) (delivered_at start apply z calls l j) ⊎ Begins (delivered_at start apply z calls l j) (delivered_at start apply z calls k i)
  one_order calls k l i j =
      let a = history calls k (k + l) i (omega arith) in
      let b = history calls l (k + l) j (omega arith) in
      ⊎_elim (λ u. inl (history_begins calls (k + l) _ _ _ _ a b u)) (λ u. inr (history_begins calls (k + l) _ _ _ _ b a u)) (either a.epoch a.count b.epoch b.count)

  read : (calls : List Call) (k i : ℕ) → reading (state_at start apply z calls k) i ≡ delivered_at start apply z calls k i
  read calls k i = reading_is z meets (past calls k) (state_at start apply z calls k) (delivered_at start apply z calls k) (inv calls k) i

  pub agreement : Agreement start apply z
  agreement = record { one_order = one_order; only_grows = λ calls k l i h. longer_from calls (opened start) k l i h; read = read }

  -- an answered win
  record Won (calls : List Call) (k i : ℕ) (e : Epoch) : Type 0 where
    led : e.1 ≡ i
    small : e.1 < 8
    above : 0 < en e
    elects : is_electing ((state_at start apply z calls k).cards i).role ≡ true
    newest : ((state_at start apply z calls k).cards i).newest ≡ e
    won : (past calls (suc k)).won (en e) ≡ true
    log : (state_at start apply z calls (suc k)).logs i ≡ hist (past calls (suc k)) (en e) 0

  wins_won : (calls : List Call) (k i : ℕ) (e : Epoch) → Wins start apply z calls k i e → Won calls k i e
  wins_won calls k i e w = record {
    led = ap (λ (x : Epoch). x.1) (sym newest) ∙ winning.led z meets (past calls k) s (delivered_at start apply z calls k) (inv calls k) i r.0;
    small = subst (λ (x : Epoch). x.1 < 8) newest (ok calls k i).new_led;
    above = subst (λ x. 0 < en x) newest (winning.above z meets (past calls k) s (delivered_at start apply z calls k) (inv calls k) i r.0);
    elects = not-false _ r.0.1.1.0;
    newest = newest;
    won = subst (λ x. (past calls (suc k)).won (en x) ≡ true) newest C.cur_won;
    log = C.log_is ∙ ap (λ x. hist (past calls (suc k)) (en x) 0) newest;
  }
    where
      s : State S
      s = state_at start apply z calls k

      r : Passed (voting.win_checks z i (state_at start apply z calls k)) × (ForEpoch ((state_at start apply z calls k).cards i).newest ≡ ForEpoch e) × (after start apply z (Win i) (state_at start apply z calls k) ≡ with_card i (voting.won_by ((state_at start apply z calls k).cards i)) (state_at start apply z calls k))
      r = ask_answered (voting.win_checks z i (state_at start apply z calls k)) (ForEpoch ((state_at start apply z calls k).cards i).newest) (ForEpoch e) (with_card i (voting.won_by ((state_at start apply z calls k).cards i)) (state_at start apply z calls k)) (state_at start apply z calls k) w.answered

      newest : ((state_at start apply z calls k).cards i).newest ≡ e
      newest = epoch_of_lem _ _ r.1

      card_is : (state_at start apply z calls (suc k)).cards i ≡ voting.won_by ((state_at start apply z calls k).cards i)
      card_is = ap (λ (t : State S). t.cards i) (happens_from calls (opened start) k (Win i) w.called ∙ r.2) ∙ at_same i (voting.won_by ((state_at start apply z calls k).cards i)) (state_at start apply z calls k).cards

      C : CardOk (past calls (suc k)) z.cards i (view (voting.won_by ((state_at start apply z calls k).cards i))) ((state_at start apply z calls (suc k)).logs i) (delivered_at start apply z calls (suc k) i)
      C = subst (λ c. CardOk (past calls (suc k)) z.cards i (view c) ((state_at start apply z calls (suc k)).logs i) (delivered_at start apply z calls (suc k) i)) card_is (ok calls (suc k) i)

  -- no second win of an epoch
  not_later : (calls : List Call) (k l i j : ℕ) (e : Epoch) → Won calls k i e → Won calls l j e → k < l → ⊥
  not_later calls k l i j e a b h =
      let C = ok calls l j in
      let n = ap en b.newest in
      let over = C.voting_above b.elects (omega (arith, n, b.above)) in
      let low = C.won_led (en e) ((grows calls (suc k) l h).won (en e) a.won) b.above (leader_num e.0 e.1 b.small ∙ b.led) in
      omega (arith, n, over, low)

  pub elections : Elections start apply z
  elections = record {
    once = λ calls k l i j e a b. let x = wins_won calls k i e a in let y = wins_won calls l j e b in ⊎_elim (λ q. q) (⊎_elim (λ h. absurd (not_later calls k l i j e x y h)) (λ h. absurd (not_later calls l k j i e y x h))) (cases_order k l);
    led = λ calls k i e a. (wins_won calls k i e a).led;
  }

  -- a commit leaves the card in its epoch
  commit_epoch : (s : State S) (i : ℕ) → ((after start apply z (Commit i) s).cards i).current ≡ (s.cards i).current
  commit_epoch s i = ask_keeps (λ t. (t.cards i).current ≡ (s.cards i).current) (committing.commit_checks z i s) _ (committing.committed apply i s) s refl (λ _. ap (λ (c : Card). c.current) (at_same i (committing.committed_to (due_entries (s.cards i) (s.logs i)) (s.cards i)) s.cards))

  kept : (calls : List Call) (k l i j p : ℕ) (x : EntryFields) (e : Epoch) → Delivers start apply z calls k i p x → Wins start apply z calls l j e → epoch_below ((state_at start apply z calls k).cards i).current e ≡ true → ItemAt ((state_at start apply z calls (suc l)).logs j) p x
  kept calls k l i j p x e D w below = item_begins _ _ from.rest p x (log_is ∙ from.is ∙ ap (λ ys. ys ++ from.rest) (sym a.is)) D.item
    where
      v : Won calls l j e
      v = wins_won calls l j e w

      a : History calls (suc k + suc l) (en ((state_at start apply z calls (suc k)).cards i).current) (delivered_at start apply z calls (suc k) i)
      a = history calls (suc k) (suc k + suc l) i (omega arith)

      g : Grows (past calls (suc l)) (past calls (suc k + suc l))
      g = grows calls (suc l) (suc k + suc l) (omega arith)

      current : ((state_at start apply z calls (suc k)).cards i).current ≡ ((state_at start apply z calls k).cards i).current
      current = ap (λ (t : State S). (t.cards i).current) (happens_from calls (opened start) k (Commit i) D.called) ∙ commit_epoch (state_at start apply z calls k) i

      lower : a.epoch < en e
      lower = omega (arith, a.within, ap en current, ltb-true (en ((state_at start apply z calls k).cards i).current) (en e) (sym (below_num ((state_at start apply z calls k).cards i).current.0 ((state_at start apply z calls k).cards i).current.1 e.0 e.1 (ok calls k i).cur_led v.small) ∙ below))

      log_is : (state_at start apply z calls (suc l)).logs j ≡ hist (past calls (suc k + suc l)) (en e) 0
      log_is = v.log ∙ sym (hist_keeps (past calls (suc l)) (past calls (suc k + suc l)) z.cards g (en e) 0 v.won (omega arith))

      from : Starts (past calls (suc k + suc l)) z.cards (inv calls (suc k + suc l)).sound a.epoch a.count (hist (past calls (suc k + suc l)) (en e) 0)
      from = begins (past calls (suc k + suc l)) z.cards (inv calls (suc k + suc l)).sound meets a.epoch a.count (en e) 0 a.chosen (g.won (en e) v.won) (record { epoch = omega (arith, lower); count = λ q. absurd (omega (arith, lower, q)) })

  pub no_lost_delivery : NoLostDelivery start apply z
  no_lost_delivery = record { kept = kept }

  -- an answered submit
  record Placing (calls : List Call) (k : ℕ) (x : EntryFields) : Type 0 where
    before : x.header.2 ≡ suc (length ((past calls k).sent (hn x.header)))
    won : (past calls (suc k)).won (hn x.header) ≡ true
    after : x.header.2 ≤ length ((past calls (suc k)).sent (hn x.header))

  submits_placing : (calls : List Call) (k : ℕ) (x : EntryFields) → Submits start apply z calls k x → Placing calls k x
  submits_placing calls k x w = record {
    before = subst (λ (h : Header). h.2 ≡ suc (length ((past calls k).sent (hn h)))) header (omega (arith, C.leads_all leading, ap (λ m. length ((past calls k).sent m)) (acc_num C)));
    won = subst (λ (h : Header). (past calls (suc k)).won (hn h) ≡ true) header (subst (λ m. (past calls (suc k)).won m ≡ true) (sym (acc_num C)) D.cur_won);
    after = subst (λ (h : Header). h.2 ≤ length ((past calls (suc k)).sent (hn h))) header (subst (λ m. (s.cards i).accepted.2 + 1 ≤ length ((past calls (suc k)).sent m)) (sym (acc_num C)) D.acc_sent);
  }
    where
      i : ℕ
      i = w.card

      s : State S
      s = state_at start apply z calls k

      C : CardOk (past calls k) z.cards i (view ((state_at start apply z calls k).cards i)) ((state_at start apply z calls k).logs i) (delivered_at start apply z calls k i)
      C = ok calls k i

      done : State S
      done = booking.submitted i x.queue x.payload s

      r : Passed (booking.submit_checks z i x.queue s) × (Placed (booking.place_after (s.cards i).accepted) ≡ Placed x.header) × (after start apply z (Submit i x.queue x.payload) s ≡ done)
      r = ask_answered (booking.submit_checks z i x.queue s) (Placed (booking.place_after (s.cards i).accepted)) (Placed x.header) done s w.answered

      header : booking.place_after (s.cards i).accepted ≡ x.header
      header = header_of _ _ r.1

      leading : is_leader (s.cards i).role ≡ true
      leading = not-false _ r.0.1.1.1.0

      new : Card
      new = booking.accepted_up_to (booking.place_after (s.cards i).accepted) (s.cards i)

      card_is : (state_at start apply z calls (suc k)).cards i ≡ new
      card_is = ap (λ (t : State S). t.cards i) (happens_from calls (opened start) k (Submit i x.queue x.payload) w.called ∙ r.2) ∙ at_same i new s.cards

      D : CardOk (past calls (suc k)) z.cards i (view new) ((state_at start apply z calls (suc k)).logs i) (delivered_at start apply z calls (suc k) i)
      D = subst (λ c. CardOk (past calls (suc k)) z.cards i (view c) ((state_at start apply z calls (suc k)).logs i) (delivered_at start apply z calls (suc k) i)) card_is (ok calls (suc k) i)

  placed_later : (calls : List Call) (k l : ℕ) (x y : EntryFields) → Placing calls k x → Placing calls l y → x.header ≡ y.header → k < l → ⊥
  placed_later calls k l x y a b q h = omega (arith, a.after, (grows calls (suc k) l h).longer (hn x.header) a.won, b.before, ap (λ (t : Header). t.2) q, ap (λ (t : Header). length ((past calls l).sent (hn t))) q)

  abbrev Submitted : List Call → EntryFields → Type 0
  Submitted calls x = (l : ℕ) × Submits start apply z calls l x

  submitted : (calls : List Call) (k i p : ℕ) (x : EntryFields) → ItemAt (delivered_at start apply z calls k i) p x → (l : ℕ) × Submits start apply z calls l x
  submitted calls k i p x a = subst (Submitted calls) a.1 (All-get_or (Submitted calls) (delivered_at start apply z calls k i) p x a.0 (subst (AllByRecursion (Submitted calls)) (read calls k i) (all_kept_by _ (Submitted calls) ((state_at start apply z calls k).logs i) (sources.log i))))
    where
      sources : From start apply z (Submitted calls) (state_at start apply z calls k)
      sources = from_run start apply z (Submitted calls) calls (opened start) (record { log = λ _. tt; lane = λ _ _. tt }) (λ l j q w h p. (l, record { card = j; called = h; answered = ap (λ t. t.0) (ask_passed (booking.submit_checks z j q (state_at start apply z calls l)) (Placed (booking.place_after ((state_at start apply z calls l).cards j).accepted)) (booking.submitted j q w (state_at start apply z calls l)) (state_at start apply z calls l) p) })) k

  list_rising : (calls : List Call) (k i : ℕ) → Rising (delivered_at start apply z calls k i)
  list_rising calls k i = subst Rising (sym (ok calls k i).list_is) (hist_rising (past calls k) z.cards (inv calls k).sound _ _ (chosen_won (past calls k) z.cards (inv calls k).sound meets _ _ (ok calls k i).mark_chosen))

  apart : (calls : List Call) (k i p q : ℕ) (x y : EntryFields) → ItemAt (delivered_at start apply z calls k i) p x → ItemAt (delivered_at start apply z calls k i) q y → x.header ≡ y.header → p < q → ⊥
  apart calls k i p q x y a b e l = not_below_self y.header (subst (λ h. header_below h y.header ≡ true) e (rising_at (delivered_at start apply z calls k i) p q x y (list_rising calls k i) l a b))

  pub integrity : Integrity start apply z
  integrity = record {
    submitted = submitted;
    own_header = λ calls k l x y a b q. let u = submits_placing calls k x a in let v = submits_placing calls l y b in ⊎_elim (λ e. e) (⊎_elim (λ h. absurd (placed_later calls k l x y u v q h)) (λ h. absurd (placed_later calls l k y x v u (sym q) h))) (cases_order k l);
    once = λ calls k i p q x y a b e. ⊎_elim (λ h. h) (⊎_elim (λ h. absurd (apart calls k i p q x y a b e h)) (λ h. absurd (apart calls k i q p y x b a (sym e) h))) (cases_order p q);
    machine = λ calls k i. machine_from start apply z calls (opened start) k i;
  }

  pub counts : Counts start apply z
  counts = record { tally = λ calls k. tally_from start apply z calls (opened start) k ∙ none _ }
    where
      none : (n : ℕ) → 0 + n ≡ n
      none n = omega arith

  pub card_rules : CardRules start apply z
  card_rules = record {
    rising = λ calls k i. subst Rising (sym (ok calls k i).log_is) (hist_rising (past calls k) z.cards (inv calls k).sound _ _ (ok calls k i).cur_won);
    newest_later = λ calls k i. let c = (state_at start apply z calls k).cards i in upto_num c.current.0 c.current.1 c.newest.0 c.newest.1 (ok calls k i).cur_led (ok calls k i).new_led ∙ le-leb _ _ (ok calls k i).cur_new;
    newest_entered = λ calls k i. (ok calls k i).entered;
    accepted_current = λ calls k i. (ok calls k i).acc_cur;
    next_current = λ calls k i. (ok calls k i).next_cur;
    committed_accepted = λ calls k i. let c = (state_at start apply z calls k).cards i in upto_header c.committed.0 c.committed.1 c.committed.2 c.accepted.0 c.accepted.1 c.accepted.2 (ok calls k i).com_led (acc_led (ok calls k i)) (subst (λ m. Up (hn c.committed) c.committed.2 m c.accepted.2) (sym (acc_num (ok calls k i))) (ok calls k i).com_upto);
  }
