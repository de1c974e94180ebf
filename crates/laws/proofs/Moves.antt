-- How the past grows: a ballot, a win or acceptance, a delivery.
use Rattle.std.proofs.Common.{◌≡◌, ℕ, suc, ◌%◌, ◌<◌, ◌≤◌, Bool, true, ◌⊎◌, List, length, take, sym, refl, ap, ◌∙◌, subst, ⊎_elim, arith}
use Rattle.std.specs.List.{AllByRecursion}
use Rattle.marks.specs.Kinds.{Header}
use Rattle.frames.specs.Fields.{EntryFields}
use Rattle.protocol.specs.Rows.{majority}
use Rattle.protocol.specs.Rack.{at}
use Rattle.laws.specs.Laws.{Rising}
use Rattle.laws.proofs.Base.{hn, Up, how_many, how_many_mono, at_same, at_other, at_all}
use Rattle.laws.proofs.Inv.{Past, hist, Numbered, Before, WonFrom, Sound, Grows, Still}
use Rattle.laws.proofs.Carry.{hist_keeps}

pub from_keeps : (H K : Past) (n : ℕ) → Grows H K → (e : ℕ) → H.won e ≡ true → WonFrom H n e → WonFrom K n e
from_keeps H K n G e w F =
    let p = G.head (e % 8) e F.own in
    record {
      voted = omega (arith, F.voted, how_many_mono (λ q. H.cast (suc q) e) (λ q. K.cast (suc q) e) n (λ q t. G.cast (suc q) e t));
      own = G.cast (e % 8) e F.own;
      begun = G.start e w ∙ F.begun ∙ sym (hist_keeps H K n G _ _ F.won F.held) ∙ ap (λ h. hist K (hn h) h.2) (sym p);
      won = subst (λ h. K.won (hn h) ≡ true) (sym p) (G.won _ F.won);
      held = subst (λ h. h.2 ≤ length (K.sent (hn h))) (sym p) (omega (arith, F.held, G.longer (hn (H.head e)) F.won));
      below = subst (λ h. hn h < e) (sym p) F.below;
    }

-- card i votes for e with header h
abbrev pub balloted : Past → ℕ → ℕ → Header → Past
balloted H i e h = record { won = H.won; start = H.start; sent = H.sent; top = H.top; cast = at i (at e true (H.cast i)) H.cast; head = at e h H.head; mark = H.mark }

pub record Ballot (H : Past) (i e : ℕ) (h : Header) : Type 0 where
  pub led : h.1 < 8
  pub below : hn h < e
  pub agrees : (j : ℕ) → H.cast j e ≡ true → H.head e ≡ h
  pub leader : (e % 8 ≡ i) ⊎ (H.cast (e % 8) e ≡ true)
  pub promise : (E k : ℕ) → E < e → k < H.top i E → Up E k (hn h) h.2

pub balloted_still : (H : Past) (i e : ℕ) (h : Header) (j : ℕ) → (j ≡ i → ⊥) → Still H (balloted H i e h) j
balloted_still H i e h j ne = record { top = λ _. refl; cast = λ x. ap (λ (f : ℕ → Bool). f x) (at_other i (at e true (H.cast i)) H.cast j ne); mark = refl; won = λ _ _. refl; sent = λ _ _. refl }

module _ (H : Past) (n i e : ℕ) (h : Header) (W : Sound H n) (B : Ballot H i e h) where
  pub balloted_grows : Grows H (balloted H i e h)
  balloted_grows = record {
    won = λ _ w. w;
    start = λ _ _. refl;
    longer = λ _ _. omega arith;
    sent = λ _ _ _ _. refl;
    top = λ _ _. omega arith;
    cast = λ j e'. at_all (λ x (f : ℕ → Bool). H.cast x e' ≡ true → f e' ≡ true) i (at e true (H.cast i)) H.cast (at_all (λ x b. H.cast i x ≡ true → b ≡ true) e true (H.cast i) (λ _. refl) (λ _ _ t. t) e') (λ _ _ t. t) j;
    head = λ j. at_all (λ x y. H.cast j x ≡ true → y ≡ H.head x) e h H.head (λ c. sym (B.agrees j c)) (λ _ _ _. refl);
  }

  -- a ballot is the new one or an old one
  each_ballot : (P : ℕ → ℕ → Header → Type 0) → P i e h → ((j x : ℕ) → H.cast j x ≡ true → P j x (H.head x)) → (j x : ℕ) → (balloted H i e h).cast j x ≡ true → P j x ((balloted H i e h).head x)
  each_ballot P new old j x = at_all (λ j (f : ℕ → Bool). f x ≡ true → P j x (at e h H.head x)) i (at e true (H.cast i)) H.cast (at_all (λ x b. b ≡ true → P i x (at e h H.head x)) e true (H.cast i) (λ _. subst (P i e) (sym (at_same e h H.head)) new) (λ y _ t. kept i y t) x) (λ j _ t. kept j x t) j
    where
      kept : (j x : ℕ) → H.cast j x ≡ true → P j x (at e h H.head x)
      kept j x t = subst (P j x) (sym (balloted_grows.head j x t)) (old j x t)

  own_cast : (balloted H i e h).cast i e ≡ true
  own_cast = ap (λ (f : ℕ → Bool). f e) (at_same i (at e true (H.cast i)) H.cast) ∙ at_same e true (H.cast i)

  pub balloted_sound : Sound (balloted H i e h) n
  balloted_sound = record {
    null_won = W.null_won;
    null_start = W.null_start;
    null_sent = W.null_sent;
    null_top = W.null_top;
    null_cast = λ j. balloted_grows.cast j 0 (W.null_cast j);
    null_head = at_other e h H.head 0 (λ q. omega (arith, B.below)) ∙ W.null_head;
    top_won = W.top_won;
    top_sent = W.top_sent;
    promise = λ j x E k c. each_ballot (λ j x y. E < x → k < H.top j E → Up E k (hn y) y.2) (B.promise E k) (λ j x t. W.promise j x E k t) j x c;
    leader_cast = each_ballot (λ j x y. 0 < x → (balloted H i e h).cast (x % 8) x ≡ true) (λ _. ⊎_elim (λ q. subst (λ y. (balloted H i e h).cast y e ≡ true) (sym q) own_cast) (λ c. balloted_grows.cast (e % 8) e c) B.leader) (λ j x t p. balloted_grows.cast (x % 8) x (W.leader_cast j x t p));
    head_below = each_ballot (λ j x y. 0 < x → hn y < x) (λ _. B.below) W.head_below;
    head_led = each_ballot (λ j x y. y.1 < 8) B.led W.head_led;
    from = λ x w p. from_keeps H (balloted H i e h) n balloted_grows x w (W.from x w p);
    entries = W.entries;
    rising = W.rising;
    numbered = W.numbered;
  }

-- card i has accepted up to (e, k); e is won, with this start and these entries sent
abbrev pub moved : Past → ℕ → ℕ → ℕ → List EntryFields → List EntryFields → Past
moved H i e k st sn = record { won = at e true H.won; start = at e st H.start; sent = at e sn H.sent; top = at i (at e (suc k) (H.top i)) H.top; cast = H.cast; head = H.head; mark = H.mark }

pub record Move (H : Past) (n i e k : ℕ) (st sn : List EntryFields) : Type 0 where
  pub above : 0 < e
  pub same_start : H.won e ≡ true → st ≡ H.start e
  pub longer : H.won e ≡ true → length (H.sent e) ≤ length sn
  pub same_sent : (m : ℕ) → H.won e ≡ true → m ≤ length (H.sent e) → take m sn ≡ take m (H.sent e)
  pub held : k ≤ length sn
  pub higher : H.top i e ≤ suc k
  pub before : AllByRecursion (Before e) st
  pub rising : Rising st
  pub numbered : Numbered e 1 sn
  pub voted : majority n ≤ how_many (λ q. H.cast (suc q) e) n
  pub own : H.cast (e % 8) e ≡ true
  pub begun : st ≡ hist H (hn (H.head e)) (H.head e).2
  pub from_won : H.won (hn (H.head e)) ≡ true
  pub from_held : (H.head e).2 ≤ length (H.sent (hn (H.head e)))
  pub last_cast : (x : ℕ) → H.cast i x ≡ true → x ≤ e
  pub leader : (e % 8 ≡ i → ⊥) → (H.won e ≡ true) × (sn ≡ H.sent e)

module _ (H : Past) (n i e k : ℕ) (st sn : List EntryFields) (W : Sound H n) (M : Move H n i e k st sn) where
  pub moved_still : (j : ℕ) → (j ≡ i → ⊥) → Still H (moved H i e k st sn) j
  moved_still j ne = record {
    top = λ x. ap (λ (f : ℕ → ℕ). f x) (at_other i (at e (suc k) (H.top i)) H.top j ne);
    cast = λ _. refl;
    mark = refl;
    won = at_all (λ x b. x % 8 ≡ j → b ≡ H.won x) e true H.won (λ q. sym (M.leader (λ r. ne (sym q ∙ r))).0) (λ _ _ _. refl);
    sent = at_all (λ x b. x % 8 ≡ j → b ≡ H.sent x) e sn H.sent (λ q. (M.leader (λ r. ne (sym q ∙ r))).1) (λ _ _ _. refl);
  }

  pub moved_grows : Grows H (moved H i e k st sn)
  moved_grows = record {
    won = at_all (λ x b. H.won x ≡ true → b ≡ true) e true H.won (λ _. refl) (λ _ _ w. w);
    start = at_all (λ x b. H.won x ≡ true → b ≡ H.start x) e st H.start M.same_start (λ _ _ _. refl);
    longer = at_all (λ x b. H.won x ≡ true → length (H.sent x) ≤ length b) e sn H.sent M.longer (λ _ _ _. omega arith);
    sent = λ x m. at_all (λ x b. H.won x ≡ true → m ≤ length (H.sent x) → take m b ≡ take m (H.sent x)) e sn H.sent (M.same_sent m) (λ _ _ _ _. refl) x;
    top = λ j x. at_all (λ j (f : ℕ → ℕ). H.top j x ≤ f x) i (at e (suc k) (H.top i)) H.top (at_all (λ x y. H.top i x ≤ y) e (suc k) (H.top i) M.higher (λ _ _. omega arith) x) (λ _ _. omega arith) j;
    cast = λ _ _ c. c;
    head = λ _ _ _. refl;
  }

  each_top : (P : ℕ → ℕ → ℕ → Type 0) → P i e (suc k) → ((j x : ℕ) → P j x (H.top j x)) → (j x : ℕ) → P j x ((moved H i e k st sn).top j x)
  each_top P new old j x = at_all (λ j (f : ℕ → ℕ). P j x (f x)) i (at e (suc k) (H.top i)) H.top (at_all (λ x y. P i x y) e (suc k) (H.top i) new (λ y _. old i y) x) (λ j _. old j x) j

  new_won : (moved H i e k st sn).won e ≡ true
  new_won = at_same e true H.won

  new_sent : (moved H i e k st sn).sent e ≡ sn
  new_sent = at_same e sn H.sent

  pub moved_sound : Sound (moved H i e k st sn) n
  moved_sound = record {
    null_won = moved_grows.won 0 W.null_won;
    null_start = moved_grows.start 0 W.null_won ∙ W.null_start;
    null_sent = at_other e sn H.sent 0 (λ q. omega (arith, M.above)) ∙ W.null_sent;
    null_top = λ j. at_all (λ j (f : ℕ → ℕ). f 0 ≡ 1) i (at e (suc k) (H.top i)) H.top (at_other e (suc k) (H.top i) 0 (λ q. omega (arith, M.above)) ∙ W.null_top i) (λ j _. W.null_top j) j;
    null_cast = W.null_cast;
    null_head = W.null_head;
    top_won = λ j x m. each_top (λ j x y. m < y → (moved H i e k st sn).won x ≡ true) (λ _. new_won) (λ j x l. moved_grows.won x (W.top_won j x m l)) j x;
    top_sent = λ j x m. each_top (λ j x y. m < y → m ≤ length ((moved H i e k st sn).sent x)) (λ l. subst (λ b. m ≤ length b) (sym new_sent) (omega (arith, M.held, l))) (λ j x l. omega (arith, W.top_sent j x m l, moved_grows.longer x (W.top_won j x m l))) j x;
    promise = λ j x E m c. each_top (λ j E y. H.cast j x ≡ true → E < x → m < y → Up E m (hn (H.head x)) (H.head x).2) (λ c l _. absurd (omega (arith, M.last_cast x c, l))) (λ j E c l t. W.promise j x E m c l t) j E c;
    leader_cast = W.leader_cast;
    head_below = W.head_below;
    head_led = W.head_led;
    from = at_all (λ x b. b ≡ true → 0 < x → WonFrom (moved H i e k st sn) n x) e true H.won (λ _ _. new_from) (λ x _ w p. from_keeps H (moved H i e k st sn) n moved_grows x w (W.from x w p));
    entries = at_all (λ x b. b ≡ true → AllByRecursion (Before x) ((moved H i e k st sn).start x)) e true H.won (λ _. subst (AllByRecursion (Before e)) (sym (at_same e st H.start)) M.before) (λ x _ w. subst (AllByRecursion (Before x)) (sym (moved_grows.start x w)) (W.entries x w));
    rising = at_all (λ x b. b ≡ true → Rising ((moved H i e k st sn).start x)) e true H.won (λ _. subst Rising (sym (at_same e st H.start)) M.rising) (λ x _ w. subst Rising (sym (moved_grows.start x w)) (W.rising x w));
    numbered = at_all (λ x b. b ≡ true → Numbered x 1 ((moved H i e k st sn).sent x)) e true H.won (λ _. subst (Numbered e 1) (sym new_sent) M.numbered) (λ x ne w. subst (Numbered x 1) (sym (at_other e sn H.sent x ne)) (W.numbered x w));
  }
    where
      new_from : WonFrom (moved H i e k st sn) n e
      new_from = record {
        voted = M.voted;
        own = M.own;
        begun = at_same e st H.start ∙ M.begun ∙ sym (hist_keeps H (moved H i e k st sn) n moved_grows _ _ M.from_won M.from_held);
        won = moved_grows.won _ M.from_won;
        held = omega (arith, M.from_held, moved_grows.longer (hn (H.head e)) M.from_won);
        below = W.head_below (e % 8) e M.own M.above;
      }

-- card i has delivered up to (e, k)
abbrev pub marked : Past → ℕ → ℕ → ℕ → Past
marked H i e k = record { won = H.won; start = H.start; sent = H.sent; top = H.top; cast = H.cast; head = H.head; mark = at i (e, k) H.mark }

pub marked_grows : (H : Past) (i e k : ℕ) → Grows H (marked H i e k)
marked_grows H i e k = record { won = λ _ w. w; start = λ _ _. refl; longer = λ _ _. omega arith; sent = λ _ _ _ _. refl; top = λ _ _. omega arith; cast = λ _ _ c. c; head = λ _ _ _. refl }

pub marked_still : (H : Past) (i e k j : ℕ) → (j ≡ i → ⊥) → Still H (marked H i e k) j
marked_still H i e k j ne = record { top = λ _. refl; cast = λ _. refl; mark = at_other i (e, k) H.mark j ne; won = λ _ _. refl; sent = λ _ _. refl }

pub marked_sound : (H : Past) (n i e k : ℕ) → Sound H n → Sound (marked H i e k) n
marked_sound H n i e k W = record {
  null_won = W.null_won;
  null_start = W.null_start;
  null_sent = W.null_sent;
  null_top = W.null_top;
  null_cast = W.null_cast;
  null_head = W.null_head;
  top_won = W.top_won;
  top_sent = W.top_sent;
  promise = W.promise;
  leader_cast = W.leader_cast;
  head_below = W.head_below;
  head_led = W.head_led;
  from = λ x w p. from_keeps H (marked H i e k) n (marked_grows H i e k) x w (W.from x w p);
  entries = W.entries;
  rising = W.rising;
  numbered = W.numbered;
}
