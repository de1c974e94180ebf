-- The invariant holds of an opened rack.
use Rattle.std.proofs.Common.{◌≡◌, ℕ, zero, suc, ◌<◌, ◌≤◌, Bool, true, false, cond, eqb, ltb, List, [], ◌∷◌, get_or, sym, refl, subst, arith}
use Rattle.std.specs.List.{AllByRecursion}
use Rattle.std.proofs.lemmas.Bool.{true≢false, eqb-true}
use Rattle.protocol.specs.Rows.{blank_row, blank_table}
use Rattle.protocol.specs.Rack.{opened_card, opened}
use Rattle.laws.proofs.Base.{how_many_all}
use Rattle.laws.proofs.Inv.{Past, Chosen, Sound, view, CardOk, RowOk, Inv}

-- only the null epoch is won; every card has accepted its header and voted for it
abbrev pub no_past : Past
no_past = record { won = λ e. eqb e 0; start = λ _. []; sent = λ _. []; top = λ _ e. cond (eqb e 0) 1 0; cast = λ _ e. eqb e 0; head = λ _. (0, 0, 0); mark = λ _. (0, 0) }

opened_sound : (n : ℕ) → Sound no_past n
opened_sound n = record {
  null_won = refl;
  null_start = refl;
  null_sent = refl;
  null_top = λ _. refl;
  null_cast = λ _. refl;
  null_head = refl;
  top_won = λ _ e k. top_won (eqb e 0) k;
  top_sent = λ _ e k. top_sent (eqb e 0) k;
  promise = λ _ e E k c l _. absurd (omega (arith, eqb-true e 0 c, l));
  leader_cast = λ _ e c _. c;
  head_below = λ _ e c p. absurd (omega (arith, eqb-true e 0 c, p));
  head_led = λ _ _ _. omega arith;
  from = λ e w p. absurd (omega (arith, eqb-true e 0 w, p));
  entries = λ _ _. tt;
  rising = λ _ _. tt;
  numbered = λ _ _. tt;
}
  where
    top_won : (b : Bool) (k : ℕ) → k < cond b 1 0 → b ≡ true
    top_won true k l = refl
    top_won false k l = absurd (omega (arith, l))

    top_sent : (b : Bool) (k : ℕ) → k < cond b 1 0 → k ≤ 0
    top_sent true k l = omega (arith, l)
    top_sent false k l = absurd (omega (arith, l))

null_chosen : (n : ℕ) → Chosen no_past n 0 0
null_chosen n = omega (arith, how_many_all (λ q. ltb 0 (no_past.top (suc q) 0)) n (λ _. refl))

all_same : {A : Type 0} (b : A) (xs : List A) (k : ℕ) → AllByRecursion (λ x. x ≡ b) xs → get_or xs k b ≡ b
all_same b [] k h = refl
all_same b (x ∷ xs) zero h = h.0
all_same b (x ∷ xs) (suc k) h = all_same b xs k h.1

blank_ok : (n j : ℕ) → RowOk no_past n j blank_row
blank_ok n j = record {
  accept = record { led = omega arith; accepted = omega arith };
  vote = record { led = omega arith; cast = refl; header = refl };
  commit = record { led = omega arith; chosen = null_chosen n; accepted = omega arith };
}

opened_card_lem : (n i : ℕ) → CardOk no_past n i (view opened_card) [] []
opened_card_lem n i = record {
  cur_led = omega arith;
  new_led = omega arith;
  com_led = omega arith;
  cur_new = omega arith;
  entered = λ _. refl;
  voting = λ _. refl;
  voting_above = λ _ p. absurd (omega (arith, p));
  acc_cur = refl;
  next_cur = refl;
  cur_won = refl;
  acc_sent = omega arith;
  log_is = refl;
  leads = λ r. absurd (true≢false (sym r));
  leads_all = λ _. refl;
  top_cur = refl;
  top_below = λ e t. low (eqb e 0) refl t;
  cast_below = λ e c. omega (arith, eqb-true e 0 c);
  vote_led = omega arith;
  vote_cast = refl;
  vote_head = refl;
  own_vote = λ _ _. refl;
  won_led = λ e w p _. absurd (omega (arith, eqb-true e 0 w, p));
  mark_chosen = null_chosen n;
  mark_upto = record { epoch = omega arith; count = λ _. omega arith };
  mark_next = λ q. absurd (omega (arith, q));
  mark_open = λ _ _. refl;
  list_is = refl;
  com_last = refl;
  com_chosen = λ _. null_chosen n;
  com_upto = record { epoch = omega arith; count = λ _. omega arith };
}
  where
    low : {e : ℕ} (b : Bool) → eqb e 0 ≡ b → 0 < cond b 1 0 → e ≤ 0
    low {e} true q t = omega (arith, eqb-true e 0 q)
    low {e} false q t = absurd (omega (arith, t))

pub opened_inv : {S : Type 0} (start : S) (n : ℕ) → Inv n no_past (opened start) (λ _. [])
opened_inv start n = record {
  sound = opened_sound n;
  card = λ i. opened_card_lem n i;
  row = λ _ k. subst (RowOk no_past n (suc k)) (sym (all_same blank_row blank_table.rows k (refl, (refl, (refl, (refl, (refl, (refl, (refl, tt))))))))) (blank_ok n (suc k));
  frame = λ _ _ _. tt;
  waiting = λ _ _. record { parcels = []; is = refl; ok = tt };
}
