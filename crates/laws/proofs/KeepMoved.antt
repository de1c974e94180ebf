-- A card that accepts up to a header, in its epoch or a later one: win, submit, and both ways of take.
use Rattle.std.proofs.Common.{◌≡◌, ℕ, suc, ◌%◌, ◌<◌, ◌≤◌, true, false, List, ◌++◌, length, take, sym, refl, ap, ◌∙◌, subst, arith}
use Rattle.std.proofs.lemmas.Bool.{true≢false}
use Rattle.marks.specs.Kinds.{Epoch, Header, epoch_of}
use Rattle.frames.specs.Fields.{EntryFields}
use Rattle.protocol.specs.Rack.{is_electing, is_leader, at}
use Rattle.protocol.specs.declared.card.Role.{Role}
use Rattle.laws.proofs.Base.{en, Up, at_same, at_all}
use Rattle.laws.proofs.Inv.{Past, hist, Chosen, WonFrom, Sound, View, CardOk, Grows}
use Rattle.laws.proofs.Past.{Meets}
use Rattle.laws.proofs.Carry.{hist_keeps, chosen_keeps, chosen_won, chosen_sent}
use Rattle.laws.proofs.Moves.{moved, Move, moved_grows}
use Rattle.laws.proofs.KeepVoting.{up_trans}

module _ (H : Past) (n i : ℕ) (v : View) (log d : List EntryFields) (W : Sound H n) (meets : Meets n) (C : CardOk H n i v log d) (current newest : Epoch) (accepted next : Header) (st sn : List EntryFields) (M : Move H n i (en current) accepted.2 st sn) where
  G : Grows H (moved H i (en current) accepted.2 st sn)
  G = moved_grows H n i (en current) accepted.2 st sn W M

  pub moved_card : (role : Role) (log' : List EntryFields) → is_electing role ≡ false → current.1 < 8 → newest ≡ current → epoch_of accepted ≡ current → epoch_of next ≡ current → Up (en v.current) v.accepted.2 (en current) accepted.2 → (is_leader role ≡ true → (current.1 ≡ i) × (accepted.2 ≡ length sn)) → log' ≡ st ++ take accepted.2 sn → (0 < next.2 → ((H.mark i).0 ≡ en current) × (suc (H.mark i).1 ≡ next.2)) → (next.2 ≡ 0 → (H.mark i).0 ≡ en current → (H.mark i).1 ≡ 0) → CardOk (moved H i (en current) accepted.2 st sn) n i (record { role = role; current = current; newest = newest; accepted = accepted; committed = v.committed; next = next; vote = v.vote }) log' d
  moved_card role log' settled small newest_is acc_is next_is upto leads log_is mark_next mark_open = record {
    cur_led = small;
    new_led = subst (λ (e : Epoch). e.1 < 8) (sym newest_is) small;
    com_led = C.com_led;
    cur_new = omega (arith, ap en newest_is);
    entered = λ _. newest_is;
    voting = λ r. absurd (true≢false (sym r ∙ settled));
    voting_above = λ r _. absurd (true≢false (sym r ∙ settled));
    acc_cur = acc_is;
    next_cur = next_is;
    cur_won = at_same (en current) true H.won;
    acc_sent = subst (λ xs. accepted.2 ≤ length xs) (sym sent) M.held;
    log_is = log_is ∙ ap (λ ys. ys ++ take accepted.2 sn) (sym (at_same (en current) st H.start)) ∙ ap (λ ys. (moved H i (en current) accepted.2 st sn).start (en current) ++ take accepted.2 ys) (sym sent);
    leads = λ r. (leads r).0;
    leads_all = λ r. (leads r).1 ∙ ap length (sym sent);
    top_cur = top_is (en current) ∙ at_same (en current) (suc accepted.2) (H.top i);
    top_below = λ x t. at_all (λ x y. 0 < y → x ≤ en current) (en current) (suc accepted.2) (H.top i) (λ _. omega arith) (λ x _ t. omega (arith, C.top_below x t, upto.epoch)) x (subst (λ y. 0 < y) (top_is x) t);
    cast_below = λ x c. omega (arith, M.last_cast x c, ap en newest_is);
    vote_led = C.vote_led;
    vote_cast = C.vote_cast;
    vote_head = C.vote_head;
    own_vote = λ r _. absurd (true≢false (sym r ∙ settled));
    won_led = at_all (λ x b. b ≡ true → 0 < x → x % 8 ≡ i → x ≤ en current) (en current) true H.won (λ _ _ _. omega arith) (λ x _ w p q. omega (arith, C.won_led x w p q, upto.epoch));
    mark_chosen = chosen_keeps H K n G _ _ C.mark_chosen;
    mark_upto = up_trans C.mark_upto upto;
    mark_next = mark_next;
    mark_open = mark_open;
    list_is = C.list_is ∙ sym (hist_keeps H K n G _ _ (chosen_won H n W meets _ _ C.mark_chosen) (chosen_sent H n W meets _ _ C.mark_chosen));
    com_last = C.com_last;
    com_chosen = λ q. chosen_keeps H K n G _ _ (C.com_chosen (omega (arith, q, C.com_upto.epoch, upto.epoch)));
    com_upto = up_trans C.com_upto upto;
  }
    where
      K : Past
      K = moved H i (en current) accepted.2 st sn

      sent : (moved H i (en current) accepted.2 st sn).sent (en current) ≡ sn
      sent = at_same (en current) sn H.sent

      top_is : (x : ℕ) → (moved H i (en current) accepted.2 st sn).top i x ≡ at (en current) (suc accepted.2) (H.top i) x
      top_is x = ap (λ (f : ℕ → ℕ). f x) (at_same i (at (en current) (suc accepted.2) (H.top i)) H.top)

-- in an epoch that is won
pub move_within : (H : Past) (n i e k : ℕ) (sn : List EntryFields) → Sound H n → H.won e ≡ true → 0 < e → length (H.sent e) ≤ length sn → ((m : ℕ) → m ≤ length (H.sent e) → take m sn ≡ take m (H.sent e)) → k ≤ length sn → H.top i e ≤ suc k → Rattle.laws.proofs.Inv.Numbered e 1 sn → ((x : ℕ) → H.cast i x ≡ true → x ≤ e) → ((e % 8 ≡ i → ⊥) → sn ≡ H.sent e) → Move H n i e k (H.start e) sn
move_within H n i e k sn W w above longer same held higher numbered last leader =
    let F = W.from e w above in
    record {
      above = above;
      same_start = λ _. refl;
      longer = λ _. longer;
      same_sent = λ m _ l. same m l;
      held = held;
      higher = higher;
      before = W.entries e w;
      rising = W.rising e w;
      numbered = numbered;
      voted = F.voted;
      own = F.own;
      begun = F.begun;
      from_won = F.won;
      from_held = F.held;
      last_cast = last;
      leader = λ ne. (w, leader ne);
    }
