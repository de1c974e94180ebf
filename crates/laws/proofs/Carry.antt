-- What stands as the past grows: histories, what is chosen, rows, frames, parcels, and the cards that did not act.
use Rattle.std.proofs.Common.{◌≡◌, ℕ, suc, ◌<◌, ◌≤◌, true, ltb, List, [], ◌∷◌, ◌++◌, length, take, filter, sym, ap, ◌∙◌, subst, arith}
use Rattle.std.proofs.ByRecursion.{All-weaker}
use Rattle.std.proofs.lemmas.Bool.{ltb-true, lt-ltb}
use Rattle.marks.specs.Kinds.{Epoch, Header, Vote}
use Rattle.frames.specs.Fields.{EntryFields, FrameFields}
use Rattle.protocol.specs.declared.peers.PeerRow.{PeerRow}
use Rattle.laws.proofs.Base.{en, hn, Up, how_many_mono, one_of, leader_num}
use Rattle.laws.proofs.Inv.{Past, hist, Chosen, Sound, View, CardOk, AcceptOk, VoteOk, CommitOk, RowOk, FrameOk, Parcel, message, diff, MessageOk, DiffOk, ParcelOk, Waiting, Grows, Still}
use Rattle.laws.proofs.Past.{Meets}

-- what is chosen was won, and sent
module _ (H : Past) (n : ℕ) (W : Sound H n) (meets : Meets n) where
  chosen_by : (e k : ℕ) → Chosen H n e k → (q : ℕ) × (ltb k (H.top (suc q) e) ≡ true)
  chosen_by e k c = one_of (λ q. ltb k (H.top (suc q) e)) n (omega (arith, c))

  pub chosen_won : (e k : ℕ) → Chosen H n e k → H.won e ≡ true
  chosen_won e k c = let q = chosen_by e k c in W.top_won (suc q.0) e k (ltb-true k _ q.1)

  pub chosen_sent : (e k : ℕ) → Chosen H n e k → k ≤ length (H.sent e)
  chosen_sent e k c = let q = chosen_by e k c in W.top_sent (suc q.0) e k (ltb-true k _ q.1)

-- closed downwards
pub chosen_less : (H : Past) (n e k m : ℕ) → k ≤ m → Chosen H n e m → Chosen H n e k
chosen_less H n e k m l c = omega (arith, c, how_many_mono (λ q. ltb m (H.top (suc q) e)) (λ q. ltb k (H.top (suc q) e)) n less)
  where
    less : (q : ℕ) → ltb m (H.top (suc q) e) ≡ true → ltb k (H.top (suc q) e) ≡ true
    less q t = lt-ltb k _ (omega (arith, ltb-true m (H.top (suc q) e) t))

module _ (H K : Past) (n : ℕ) (G : Grows H K) where
  pub hist_keeps : (e k : ℕ) → H.won e ≡ true → k ≤ length (H.sent e) → hist K e k ≡ hist H e k
  hist_keeps e k w l = ap (λ ys. ys ++ take k (K.sent e)) (G.start e w) ∙ ap (λ ys. H.start e ++ ys) (G.sent e k w l)

  pub chosen_keeps : (e k : ℕ) → Chosen H n e k → Chosen K n e k
  chosen_keeps e k c = omega (arith, c, how_many_mono (λ q. ltb k (H.top (suc q) e)) (λ q. ltb k (K.top (suc q) e)) n more)
    where
      more : (q : ℕ) → ltb k (H.top (suc q) e) ≡ true → ltb k (K.top (suc q) e) ≡ true
      more q t = lt-ltb k _ (omega (arith, ltb-true k (H.top (suc q) e) t, G.top (suc q) e))

  pub accept_keeps : (j : ℕ) (h : Header) → AcceptOk H j h → AcceptOk K j h
  accept_keeps j h a = record { led = a.led; accepted = omega (arith, a.accepted, G.top j (hn h)) }

  pub vote_keeps : (j : ℕ) (v : Vote) → VoteOk H j v → VoteOk K j v
  vote_keeps j v a = record { led = a.led; cast = G.cast j _ a.cast; header = a.header ∙ sym (G.head j _ a.cast) }

  pub commit_keeps : (j : ℕ) (h : Header) → CommitOk H n j h → CommitOk K n j h
  commit_keeps j h a = record { led = a.led; chosen = chosen_keeps _ _ a.chosen; accepted = omega (arith, a.accepted, G.top j (hn h)) }

  pub row_keeps : (j : ℕ) (r : PeerRow) → RowOk H n j r → RowOk K n j r
  row_keeps j r a = record { accept = accept_keeps j _ a.accept; vote = vote_keeps j _ a.vote; commit = commit_keeps j _ a.commit }

  pub frame_keeps : (j : ℕ) (f : FrameFields) → FrameOk H n j f → FrameOk K n j f
  frame_keeps j f a = record { accept = λ e. accept_keeps j _ (a.accept e); vote = λ e. vote_keeps j _ (a.vote e); commit = λ e. commit_keeps j _ (a.commit e) }

  pub message_keeps : (j : ℕ) (x : EntryFields) → MessageOk H j x → MessageOk K j x
  message_keeps j x a = record {
    led = a.led;
    leader = a.leader;
    won = G.won _ a.won;
    counted = a.counted;
    sent = omega (arith, a.sent, G.longer (hn x.header) a.won);
    adds = G.sent _ _ a.won a.sent ∙ a.adds ∙ ap (λ ys. ys ++ x ∷ []) (sym (G.sent _ _ a.won (omega (arith, a.sent))));
  }

  pub diff_keeps : (j i : ℕ) (e : Epoch) (base : Header) (xs : List EntryFields) → DiffOk H n j i e base xs → DiffOk K n j i e base xs
  diff_keeps j i e base xs a = record { led = a.led; leader = a.leader; won = G.won _ a.won; from = commit_keeps i base a.from; is = a.is ∙ ap (filter _) (sym (G.start _ a.won)) }

  pub parcel_keeps : (j i : ℕ) (p : Parcel) → ParcelOk H n j i p → ParcelOk K n j i p
  parcel_keeps j i (message x) a = message_keeps j x a
  parcel_keeps j i (diff e base xs) a = diff_keeps j i e base xs a

  pub waiting_keeps : (j i : ℕ) (lane : List FrameFields) → Waiting H n j i lane → Waiting K n j i lane
  waiting_keeps j i lane a = record { parcels = a.parcels; is = a.is; ok = All-weaker (ParcelOk H n j i) (ParcelOk K n j i) (parcel_keeps j i) a.parcels a.ok }

  pub card_keeps : Sound H n → Meets n → (j : ℕ) → Still H K j → (v : View) (log d : List EntryFields) → CardOk H n j v log d → CardOk K n j v log d
  card_keeps W meets j S v log d C = record {
    cur_led = C.cur_led;
    new_led = C.new_led;
    com_led = C.com_led;
    cur_new = C.cur_new;
    entered = C.entered;
    voting = C.voting;
    voting_above = C.voting_above;
    acc_cur = C.acc_cur;
    next_cur = C.next_cur;
    cur_won = G.won _ C.cur_won;
    acc_sent = omega (arith, C.acc_sent, G.longer (en v.current) C.cur_won);
    log_is = C.log_is ∙ sym (hist_keeps _ _ C.cur_won C.acc_sent);
    leads = C.leads;
    leads_all = λ r. C.leads_all r ∙ ap length (sym (S.sent (en v.current) (leader_num v.current.0 v.current.1 C.cur_led ∙ C.leads r)));
    top_cur = S.top _ ∙ C.top_cur;
    top_below = λ e t. C.top_below e (subst (λ x. 0 < x) (S.top e) t);
    cast_below = λ e t. C.cast_below e (sym (S.cast e) ∙ t);
    vote_led = C.vote_led;
    vote_cast = S.cast _ ∙ C.vote_cast;
    vote_head = C.vote_head ∙ sym (G.head j _ C.vote_cast);
    own_vote = C.own_vote;
    won_led = λ e w p q. C.won_led e (sym (S.won e q) ∙ w) p q;
    mark_chosen = subst (λ m. Chosen K n m.0 m.1) (sym S.mark) (chosen_keeps _ _ C.mark_chosen);
    mark_upto = subst (λ m. Up m.0 m.1 (en v.current) v.accepted.2) (sym S.mark) C.mark_upto;
    mark_next = λ p. subst (λ m. (m.0 ≡ en v.current) × (suc m.1 ≡ v.next.2)) (sym S.mark) (C.mark_next p);
    mark_open = subst (λ m. v.next.2 ≡ 0 → m.0 ≡ en v.current → m.1 ≡ 0) (sym S.mark) C.mark_open;
    list_is = C.list_is ∙ sym (hist_keeps _ _ (chosen_won H n W meets _ _ C.mark_chosen) (chosen_sent H n W meets _ _ C.mark_chosen)) ∙ ap (λ m. hist K m.0 m.1) (sym S.mark);
    com_last = C.com_last;
    com_chosen = λ p. chosen_keeps _ _ (C.com_chosen p);
    com_upto = C.com_upto;
  }
