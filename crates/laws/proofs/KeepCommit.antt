-- commit keeps the invariant, with what it delivers added to the card's list.
use Rattle.std.proofs.Common.{◌≡◌, ℕ, suc, ◌+◌, ◌<◌, ◌≤◌, Bool, true, false, cond, not, ◌&&◌, eqb, ltb, leb, List, [], ◌∷◌, ◌++◌, length, take, Some, None, filter, Option, sym, refl, ap, ◌∙◌, subst, arith}
use Rattle.std.specs.List.{AllByRecursion}
use Rattle.std.proofs.ByRecursion.{All-weaker}
use Rattle.std.proofs.lemmas.List.{append_assoc, append-nil}
use Rattle.std.proofs.lemmas.Bool.{true≢false, not-false, eqb-true, eqb-false, and_parts, leb-true, lt-ltb}
use Rattle.marks.specs.Kinds.{Epoch, Header, epoch_of}
use Rattle.marks.specs.Order.{header_below, header_up_to}
use Rattle.frames.specs.Fields.{Words, EntryFields}
use Rattle.protocol.specs.Rows.{majority, row_of, accept_of, accept_rows}
use Rattle.protocol.specs.Rack.{Sizes, State, is_leader}
use Rattle.protocol.specs.Booking.{entry_at, inside}
use Rattle.protocol.specs.Committing.{last_of_epoch, reached, supported, one_or_none, opens_epoch, due_entries, last_header, committed_to, commit_checks, committed}
use Rattle.protocol.specs.declared.card.Card.{Card}
use Rattle.laws.specs.Laws.{Rising}
use Rattle.laws.proofs.Base.{en, hn, Up, Lt, at_same, at_other, header_upto, below_header, not_upto_header}
use Rattle.laws.proofs.Inv.{Past, hist, Chosen, Before, UpTo, Beyond, Sound, View, view, CardOk, AcceptOk, RowOk, Inv}
use Rattle.laws.proofs.Past.{Meets, Starts, begins, hist_upto, hist_rising}
use Rattle.laws.proofs.Carry.{chosen_won, chosen_less}
use Rattle.laws.proofs.Moves.{marked, marked_grows, marked_still, marked_sound}
use Rattle.protocol.proofs.Asked.{Passed}
use Rattle.laws.proofs.Keep.{acted, frames_keep, waits_keep, rows_keep, count_bound}
use Rattle.laws.proofs.Tables.{row_ok, peer_row}
use Rattle.laws.proofs.KeepVoting.{Kept, acc_num, acc_led}
use Rattle.laws.proofs.Found.{InLog, in_current, inside_start, keeps_first, keeps_second, last_of, last_append, upto_not_below, rising_last}

lt_from : {a b c d e f : ℕ} → Up a b c d → Lt c d e f → Lt a b e f
lt_from u w = record { epoch = omega (arith, u.epoch, w.epoch); count = λ q. omega (arith, u.count (omega (arith, u.epoch, w.epoch, q)), w.count (omega (arith, u.epoch, w.epoch, q))) }

all_second : {X : Type 0} (P : X → Type 0) (xs ys : List X) → AllByRecursion P (xs ++ ys) → AllByRecursion P ys
all_second P [] ys h = h
all_second P (x ∷ xs) ys h = all_second P xs ys h.1

-- a row from next to the end of the epoch lies in the epoch, at or above next
between : (c : Card) (h : Header) → c.current.1 < 8 → h.1 < 8 → epoch_of c.next ≡ c.current → header_up_to c.next h && header_up_to h (last_of_epoch c) ≡ true → (hn h ≡ en c.current) × (c.next.2 ≤ h.2)
between c h small led next t =
    let q = and_parts (header_up_to c.next h) (header_up_to h (last_of_epoch c)) t in
    let a = header_upto c.next.0 c.next.1 c.next.2 h.0 h.1 h.2 (subst (λ (e : Epoch). e.1 < 8) (sym next) small) led q.0 in
    let b = header_upto h.0 h.1 h.2 c.current.0 c.current.1 4294967295 led small q.1 in
    let n : hn c.next ≡ en c.current = ap en next in
    (omega (arith, a.epoch, b.epoch, n), a.count (omega (arith, a.epoch, b.epoch, n)))

module _ {S : Type 0} (z : Sizes) (meets : Meets z.cards) (H : Past) (s : State S) (d : ℕ → List EntryFields) (I : Inv z.cards H s d) (i : ℕ) where
  C : CardOk H z.cards i (view (s.cards i)) (s.logs i) (d i)
  C = I.card i

  abbrev e : ℕ
  e = en (s.cards i).current

  -- what supports a commit makes next chosen
  chosen : supported z i (s.cards i) ≡ true → Chosen H z.cards e (s.cards i).next.2
  chosen t = by (is_leader (s.cards i).role) t
    where
      accepts : (k : ℕ) → AcceptOk H (suc k) (accept_of i (s.cards i).accepted (s.cards i).peers (suc k))
      accepts k = by (eqb (suc k) i) refl
        where
          by : (b : Bool) → eqb (suc k) i ≡ b → AcceptOk H (suc k) (cond b (s.cards i).accepted (row_of (s.cards i).peers (suc k)).accept)
          by true q = subst (λ x. AcceptOk H x (s.cards i).accepted) (sym (eqb-true (suc k) i q)) (record { led = acc_led C; accepted = omega (arith, ap (H.top i) (acc_num C), C.top_cur) })
          by false q = (peer_row H z.cards I.sound (s.cards i).peers (I.row i) k).accept

      each : (k : ℕ) (h : Header) → AcceptOk H (suc k) h → header_up_to (s.cards i).next h && header_up_to h (last_of_epoch (s.cards i)) ≡ true → ltb (s.cards i).next.2 (H.top (suc k) (en (s.cards i).current)) ≡ true
      each k h a t = let b = between (s.cards i) h C.cur_led a.led C.next_cur t in lt-ltb _ _ (omega (arith, b.1, a.accepted, ap (H.top (suc k)) b.0))

      by : (l : Bool) → cond l (leb (majority z.cards) (reached (s.cards i) (accept_rows z.cards i (s.cards i).accepted (s.cards i).peers))) (eqb (reached (s.cards i) ((row_of (s.cards i).peers (s.cards i).current.1).commit ∷ [])) 1) ≡ true → Chosen H z.cards (en (s.cards i).current) (s.cards i).next.2
      by true t = omega (arith, leb-true _ _ t, count_bound header_up_to (s.cards i).next (last_of_epoch (s.cards i)) (accept_of i (s.cards i).accepted (s.cards i).peers) z.cards (λ q. ltb (s.cards i).next.2 (H.top (suc q) (en (s.cards i).current))) (λ k. each k _ (accepts k)))
      by false t = one (header_up_to (s.cards i).next h && header_up_to h (last_of_epoch (s.cards i))) refl t
        where
          h : Header
          h = (row_of (s.cards i).peers (s.cards i).current.1).commit

          one : (b : Bool) → header_up_to (s.cards i).next h && header_up_to h (last_of_epoch (s.cards i)) ≡ b → eqb (cond b 1 0 + 0) 1 ≡ true → Chosen H z.cards (en (s.cards i).current) (s.cards i).next.2
          one true b t =
              let r = (row_ok H z.cards I.sound (s.cards i).peers (I.row i) (s.cards i).current.1).commit in
              let q = between (s.cards i) h C.cur_led r.led C.next_cur b in
              chosen_less H z.cards (en (s.cards i).current) (s.cards i).next.2 h.2 q.1 (subst (λ m. Chosen H z.cards m h.2) q.0 r.chosen)
          one false b t = absurd (true≢false (sym t))

  -- committed is at most where the card last delivered
  com_mark : ((s.cards i).committed.1 < 8) × Up (hn (s.cards i).committed) (s.cards i).committed.2 (H.mark i).0 (H.mark i).1
  com_mark = subst (λ (h : Header). (h.1 < 8) × Up (hn h) h.2 (H.mark i).0 (H.mark i).1) (sym C.com_last) (last_of (λ (h : Header). (h.1 < 8) × Up (hn h) h.2 (H.mark i).0 (H.mark i).1) (0, 0, 0) (d i) (omega arith, record { epoch = omega arith; count = λ _. omega arith }) (subst (AllByRecursion _) (sym C.list_is) (All-weaker (UpTo (H.mark i).0 (H.mark i).1) _ (λ x u. (u.led, u.upto)) _ (hist_upto H z.cards I.sound _ _ (chosen_won H z.cards I.sound meets _ _ C.mark_chosen)))))

  list_upto : AllByRecursion (λ (x : EntryFields). header_up_to x.header (s.cards i).committed ≡ true) (d i)
  list_upto = subst (λ h. AllByRecursion (λ (x : EntryFields). header_up_to x.header h ≡ true) (d i)) (sym C.com_last) (rising_last (0, 0, 0) (d i) (subst Rising (sym C.list_is) (hist_rising H z.cards I.sound _ _ (chosen_won H z.cards I.sound meets _ _ C.mark_chosen))))

  beyond_lt : (x : EntryFields) → Beyond (H.mark i).0 (H.mark i).1 x → Lt (hn (s.cards i).committed) (s.cards i).committed.2 (hn x.header) x.header.2
  beyond_lt x b = lt_from com_mark.1 b.beyond

  -- a reading is the delivered list
  pub reading_is : filter (λ (x : EntryFields). header_up_to x.header (s.cards i).committed) (s.logs i) ≡ d i
  reading_is =
      let w = begins H z.cards I.sound meets (H.mark i).0 (H.mark i).1 e (s.cards i).accepted.2 C.mark_chosen C.cur_won C.mark_upto in
      keeps_first (λ (x : EntryFields). header_up_to x.header (s.cards i).committed) (s.logs i) (d i) w.rest (C.log_is ∙ w.is ∙ ap (λ ys. ys ++ w.rest) (sym C.list_is)) list_upto
      (All-weaker (Beyond (H.mark i).0 (H.mark i).1) _ (λ x b. not_upto_header x.header.0 x.header.1 x.header.2 (s.cards i).committed.0 (s.cards i).committed.1 (s.cards i).committed.2 b.led C.com_led (beyond_lt x b)) _ w.beyond)

  -- what committed may become
  record ComOk (h : Header) : Type 0 where
    led : h.1 < 8
    chosen_if : hn h ≡ e → Chosen H z.cards (hn h) h.2
    upto : Up (hn h) h.2 e (s.cards i).accepted.2

  record DueOk (due : List EntryFields) : Type 0 where
    list : d i ++ due ≡ hist H e (s.cards i).next.2
    within : (s.cards i).next.2 ≤ (s.cards i).accepted.2
    each : AllByRecursion (λ (x : EntryFields). ComOk x.header) due

  next_is : (k : ℕ) → (s.cards i).next.2 ≡ k → (s.cards i).next ≡ ((s.cards i).current.0, (s.cards i).current.1, k)
  next_is k q = λ t. (ap (λ (y : Epoch). y.0) C.next_cur t, ap (λ (y : Epoch). y.1) C.next_cur t, q t)

  due_open : (s.cards i).next.2 ≡ 0 → DueOk (filter (inside (s.cards i).committed (s.cards i).next) (s.logs i))
  due_open zero_count = subst DueOk (sym due_is) (record {
    list = ap (λ ys. ys ++ w.rest) C.list_is ∙ sym w.is ∙ ap (λ k. hist H e k) (sym zero_count);
    within = omega (arith, zero_count);
    each = All-weaker (Before e) (λ (x : EntryFields). ComOk x.header) (λ x b. record { led = b.led; chosen_if = λ q. absurd (omega (arith, q, b.below)); upto = record { epoch = omega (arith, b.below); count = λ q. absurd (omega (arith, q, b.below)) } }) w.rest (all_second (Before e) (hist H (H.mark i).0 (H.mark i).1) w.rest (subst (AllByRecursion (Before e)) start (I.sound.entries e C.cur_won)));
  })
    where
      w : Starts H z.cards I.sound (H.mark i).0 (H.mark i).1 (hist H e 0)
      w = begins H z.cards I.sound meets (H.mark i).0 (H.mark i).1 e 0 C.mark_chosen C.cur_won (record { epoch = C.mark_upto.epoch; count = λ q. omega (arith, C.mark_open zero_count q) })

      start : H.start e ≡ hist H (H.mark i).0 (H.mark i).1 ++ w.rest
      start = sym (append-nil (H.start e)) ∙ w.is

      due_is : filter (inside (s.cards i).committed (s.cards i).next) (s.logs i) ≡ w.rest
      due_is =
          ap (λ h. filter (inside (s.cards i).committed h) (s.logs i)) (next_is 0 zero_count)
          ∙ ap (filter (inside (s.cards i).committed ((s.cards i).current.0, (s.cards i).current.1, 0))) C.log_is
          ∙ inside_start H z.cards I.sound (s.cards i).committed (s.cards i).current.0 (s.cards i).current.1 (s.cards i).accepted.2 C.cur_led C.cur_won
          ∙ keeps_second (λ (x : EntryFields). header_below (s.cards i).committed x.header) (H.start e) (hist H (H.mark i).0 (H.mark i).1) w.rest start
          (subst (AllByRecursion (λ (x : EntryFields). header_below (s.cards i).committed x.header ≡ false)) C.list_is (All-weaker _ _ (λ x t. upto_not_below x.header (s.cards i).committed t) (d i) list_upto))
          (All-weaker (Beyond (H.mark i).0 (H.mark i).1) _ (λ x b. below_header (s.cards i).committed.0 (s.cards i).committed.1 (s.cards i).committed.2 x.header.0 x.header.1 x.header.2 C.com_led b.led (beyond_lt x b)) _ w.beyond)

  due_entry : Chosen H z.cards e (s.cards i).next.2 → 0 < (s.cards i).next.2 → (o : Option EntryFields) → entry_at (s.cards i).next (s.logs i) ≡ o → eqb (length (one_or_none o)) 0 ≡ false → DueOk (one_or_none o)
  due_entry c more None f t = absurd (true≢false t)
  due_entry c more (Some x) f t = record {
    list = ap (λ ys. ys ++ x ∷ []) (C.list_is ∙ ap (λ m. hist H m k) (C.mark_next more).0) ∙ append_assoc (H.start e) (take k (H.sent e)) (x ∷ []) ∙ ap (λ ys. H.start e ++ ys) (sym found.adds) ∙ ap (λ m. hist H e m) (C.mark_next more).1;
    within = omega (arith, found.within, (C.mark_next more).1);
    each = (subst ComOk (next_is (suc k) (sym (C.mark_next more).1) ∙ sym found.header) (record { led = subst (λ (y : Epoch). y.1 < 8) (sym C.next_cur) C.cur_led; chosen_if = λ q. subst (λ m. Chosen H z.cards m (s.cards i).next.2) (sym (ap en C.next_cur)) c; upto = record { epoch = omega (arith, ap en C.next_cur); count = λ _. omega (arith, found.within, (C.mark_next more).1) } }), tt);
  }
    where
      k : ℕ
      k = (H.mark i).1

      found : InLog H (en (s.cards i).current) k (s.cards i).accepted.2 ((s.cards i).current.0, (s.cards i).current.1, suc k) x
      found = in_current I.sound C k x (subst (λ h. entry_at h (s.logs i) ≡ Some x) (next_is (suc k) (sym (C.mark_next more).1)) f)

  due_ok : Chosen H z.cards e (s.cards i).next.2 → not (opens_epoch (s.cards i)) && eqb (length (due_entries (s.cards i) (s.logs i))) 0 ≡ false → DueOk (due_entries (s.cards i) (s.logs i))
  due_ok c t = by (opens_epoch (s.cards i)) refl t
    where
      by : (b : Bool) → opens_epoch (s.cards i) ≡ b → not b && eqb (length (cond b (filter (inside (s.cards i).committed (s.cards i).next) (s.logs i)) (one_or_none (entry_at (s.cards i).next (s.logs i))))) 0 ≡ false → DueOk (cond b (filter (inside (s.cards i).committed (s.cards i).next) (s.logs i)) (one_or_none (entry_at (s.cards i).next (s.logs i))))
      by true b t = due_open (eqb-true _ _ b)
      by false b t = due_entry c (positive (s.cards i).next.2 (eqb-false (s.cards i).next.2 0 b)) (entry_at (s.cards i).next (s.logs i)) refl t
        where
          positive : (m : ℕ) → (m ≡ 0 → ⊥) → 0 < m
          positive m ne = omega arith

  pub commit_keeps : (apply : ℕ → Words → S → S) → Passed (commit_checks z i s) → (f : ℕ → List EntryFields) → f i ≡ d i ++ due_entries (s.cards i) (s.logs i) → ((j : ℕ) → (j ≡ i → ⊥) → f j ≡ d j) → Kept z.cards H (committed apply i s) f
  commit_keeps apply p f here others =
      let t = committed apply i s in (
        K,
        G,
        acted z.cards meets H K s t d f I G W i (marked_still H i e k) card (s.logs i) (d i ++ due)
            (record { card = at_same i card s.cards; log_is = refl; list_is = here; cards = λ j ne. at_other i card s.cards j ne; logs = λ _ _. refl; lists = others })
            (record {
              cur_led = C.cur_led;
              new_led = C.new_led;
              com_led = last.led;
              cur_new = C.cur_new;
              entered = C.entered;
              voting = C.voting;
              voting_above = C.voting_above;
              acc_cur = C.acc_cur;
              next_cur = C.next_cur;
              cur_won = C.cur_won;
              acc_sent = C.acc_sent;
              log_is = C.log_is;
              leads = C.leads;
              leads_all = C.leads_all;
              top_cur = C.top_cur;
              top_below = C.top_below;
              cast_below = C.cast_below;
              vote_led = C.vote_led;
              vote_cast = C.vote_cast;
              vote_head = C.vote_head;
              own_vote = C.own_vote;
              won_led = C.won_led;
              mark_chosen = subst (λ m. Chosen K z.cards m.0 m.1) (sym mark_is) c;
              mark_upto = subst (λ m. Up m.0 m.1 e (s.cards i).accepted.2) (sym mark_is) (record { epoch = omega arith; count = λ _. D.within });
              mark_next = λ _. subst (λ m. (m.0 ≡ e) × (suc m.1 ≡ (s.cards i).next.2 + 1)) (sym mark_is) (refl, omega arith);
              mark_open = λ q _. absurd (omega (arith, q));
              list_is = D.list ∙ ap (λ m. hist K m.0 m.1) (sym mark_is);
              com_last = ap (λ h. last_header h due) C.com_last ∙ sym (last_append (0, 0, 0) (d i) due);
              com_chosen = last.chosen_if;
              com_upto = last.upto;
            })
            (rows_keep z.cards meets H K s t d f I G W i) (frames_keep z.cards meets H K s t d f I G W) (waits_keep z.cards meets H K s t d f I G W),
      )
    where
      due : List EntryFields
      due = due_entries (s.cards i) (s.logs i)

      k : ℕ
      k = (s.cards i).next.2

      K : Past
      K = marked H i e k

      G : Rattle.laws.proofs.Inv.Grows H (marked H i e k)
      G = marked_grows H i e k

      W : Sound (marked H i e k) z.cards
      W = marked_sound H z.cards i e k I.sound

      card : Card
      card = committed_to due (s.cards i)

      c : Chosen H z.cards e (s.cards i).next.2
      c = chosen (not-false _ p.1.1.1.0)

      D : DueOk (due_entries (s.cards i) (s.logs i))
      D = due_ok c p.1.1.1.1.0

      last : ComOk (last_header (s.cards i).committed due)
      last = last_of ComOk (s.cards i).committed due (record { led = C.com_led; chosen_if = C.com_chosen; upto = C.com_upto }) D.each

      mark_is : (marked H i e k).mark i ≡ (e, k)
      mark_is = at_same i (e, k) H.mark
