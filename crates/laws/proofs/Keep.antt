-- How a call that one card carries out keeps the invariant.
use Rattle.std.proofs.Common.{◌≡◌, ℕ, zero, suc, ◌+◌, ◌≤◌, Bool, true, false, cond, ◌&&◌, leb, List, get_or, sym, refl, ◌∙◌, subst, ⊎_elim, arith}
use Rattle.std.specs.List.{AllByRecursion}
use Rattle.std.proofs.ByRecursion.{All-weaker}
use Rattle.std.proofs.lemmas.Bool.{cases_eq, and_parts, leb-true, true≢false, not-false}
use Rattle.marks.specs.Rows.{count_between}
use Rattle.frames.specs.Fields.{EntryFields}
use Rattle.protocol.specs.Rows.{blank_row, rows_of}
use Rattle.protocol.specs.Rack.{Sizes, State, at, at_lane, no_card}
use Rattle.protocol.specs.declared.card.Card.{Card}
use Rattle.laws.proofs.Base.{how_many, at_other, at_all}
use Rattle.laws.proofs.Inv.{Past, Sound, view, CardOk, RowOk, FrameOk, Waiting, Inv, Grows, Still}
use Rattle.laws.proofs.Past.{Meets}
use Rattle.laws.proofs.Carry.{card_keeps, row_keeps, frame_keeps, waiting_keeps}

pub card_within : (z : Sizes) (i : ℕ) → no_card z i ≡ false → (1 ≤ i) × (i ≤ z.cards)
card_within z i h = let p = and_parts (leb 1 i) (leb i z.cards) (not-false _ h) in (leb-true 1 i p.0, leb-true i z.cards p.1)

-- the past stands still
pub same_grows : (H : Past) → Grows H H
same_grows H = record { won = λ _ w. w; start = λ _ _. refl; longer = λ _ _. omega arith; sent = λ _ _ _ _. refl; top = λ _ _. omega arith; cast = λ _ _ c. c; head = λ _ _ _. refl }

pub same_still : (H : Past) (j : ℕ) → Still H H j
same_still H j = record { top = λ _. refl; cast = λ _. refl; mark = refl; won = λ _ _. refl; sent = λ _ _. refl }

pub grows_on : (H K L : Past) → Grows H K → Grows K L → Grows H L
grows_on H K L g h = record {
  won = λ e w. h.won e (g.won e w);
  start = λ e w. h.start e (g.won e w) ∙ g.start e w;
  longer = λ e w. omega (arith, g.longer e w, h.longer e (g.won e w));
  sent = λ e k w l. h.sent e k (g.won e w) (omega (arith, l, g.longer e w)) ∙ g.sent e k w l;
  top = λ i e. omega (arith, g.top i e, h.top i e);
  cast = λ i e c. h.cast i e (g.cast i e c);
  head = λ i e c. h.head i e (g.cast i e c) ∙ g.head i e c;
}

-- card i acted: it is now c, with this log and this delivered list; the other cards are as they were
pub record Acted {S : Type 0} (i : ℕ) (s t : State S) (d f : ℕ → List EntryFields) (c : Card) (log list : List EntryFields) : Type 0 where
  pub card : t.cards i ≡ c
  pub log_is : t.logs i ≡ log
  pub list_is : f i ≡ list
  pub cards : (j : ℕ) → (j ≡ i → ⊥) → t.cards j ≡ s.cards j
  pub logs : (j : ℕ) → (j ≡ i → ⊥) → t.logs j ≡ s.logs j
  pub lists : (j : ℕ) → (j ≡ i → ⊥) → f j ≡ d j

module _ {S : Type 0} (n : ℕ) (meets : Meets n) (H K : Past) (s t : State S) (d f : ℕ → List EntryFields) (I : Inv n H s d) (G : Grows H K) (W : Sound K n) where
  pub acted : (i : ℕ) → ((j : ℕ) → (j ≡ i → ⊥) → Still H K j) → (c : Card) (log list : List EntryFields) → Acted i s t d f c log list → CardOk K n i (view c) log list → ((k : ℕ) → RowOk K n (suc k) (get_or c.peers.rows k blank_row)) → ((j r k : ℕ) → AllByRecursion (FrameOk K n j) (t.lanes j r k)) → ((j r : ℕ) → Waiting K n j r (t.lanes j r 0)) → Inv n K t f
  acted i still c log list A ok rows frames waits = record { sound = W; card = card; row = row; frame = frames; waiting = waits }
    where
      card : (j : ℕ) → CardOk K n j (view (t.cards j)) (t.logs j) (f j)
      card j = ⊎_elim same other (cases_eq j i)
        where
          same : j ≡ i → CardOk K n j (view (t.cards j)) (t.logs j) (f j)
          same e = subst (λ j. CardOk K n j (view (t.cards j)) (t.logs j) (f j)) (sym e) (subst (λ x. CardOk K n i (view x) (t.logs i) (f i)) (sym A.card) (subst (λ x. CardOk K n i (view c) x (f i)) (sym A.log_is) (subst (CardOk K n i (view c) log) (sym A.list_is) ok)))

          other : (j ≡ i → ⊥) → CardOk K n j (view (t.cards j)) (t.logs j) (f j)
          other ne = subst (λ x. CardOk K n j (view x) (t.logs j) (f j)) (sym (A.cards j ne)) (subst (λ x. CardOk K n j (view (s.cards j)) x (f j)) (sym (A.logs j ne)) (subst (CardOk K n j (view (s.cards j)) (s.logs j)) (sym (A.lists j ne)) (card_keeps H K n G I.sound meets j (still j ne) (view (s.cards j)) (s.logs j) (d j) (I.card j))))

      row : (j k : ℕ) → RowOk K n (suc k) (get_or (t.cards j).peers.rows k blank_row)
      row j k = ⊎_elim same other (cases_eq j i)
        where
          same : j ≡ i → RowOk K n (suc k) (get_or (t.cards j).peers.rows k blank_row)
          same e = subst (λ j. RowOk K n (suc k) (get_or (t.cards j).peers.rows k blank_row)) (sym e) (subst (λ x. RowOk K n (suc k) (get_or x.peers.rows k blank_row)) (sym A.card) (rows k))

          other : (j ≡ i → ⊥) → RowOk K n (suc k) (get_or (t.cards j).peers.rows k blank_row)
          other ne = subst (λ x. RowOk K n (suc k) (get_or x.peers.rows k blank_row)) (sym (A.cards j ne)) (row_keeps H K n G (suc k) _ (I.row j k))

  -- lanes that were not touched
  pub frames_keep : (j r k : ℕ) → AllByRecursion (FrameOk K n j) (s.lanes j r k)
  frames_keep j r k = All-weaker (FrameOk H n j) (FrameOk K n j) (frame_keeps H K n G j) _ (I.frame j r k)

  pub waits_keep : (j r : ℕ) → Waiting K n j r (s.lanes j r 0)
  waits_keep j r = waiting_keeps H K n G j r _ (I.waiting j r)

  pub rows_keep : (i k : ℕ) → RowOk K n (suc k) (get_or (s.cards i).peers.rows k blank_row)
  rows_keep i k = row_keeps H K n G (suc k) _ (I.row i k)

-- a lane changed at one place
pub lane_all : {A : Type 0} (P : ℕ → ℕ → ℕ → A → Type 0) (j r k : ℕ) (a : A) (f : ℕ → ℕ → ℕ → A) → P j r k a → ((x y w : ℕ) → P x y w (f x y w)) → (x y w : ℕ) → P x y w (at_lane j r k a f x y w)
lane_all P j r k a f new old x y w =
    at_all (λ x (g : ℕ → ℕ → _). P x y w (g y w)) j (at r (at k a (f j r)) (f j)) f
    (at_all (λ y (g : ℕ → _). P j y w (g w)) r (at k a (f j r)) (f j)
    (at_all (λ w b. P j r w b) k a (f j r) new (λ w _. old j r w) w) (λ y _. old j y w) y) (λ x _. old x y w) x

pub lane_zero : {A : Type 0} (P : ℕ → ℕ → A → Type 0) (j r : ℕ) (a : A) (f : ℕ → ℕ → ℕ → A) → P j r a → ((x y : ℕ) → P x y (f x y 0)) → (x y : ℕ) → P x y (at_lane j r 0 a f x y 0)
lane_zero P j r a f new old x y =
    at_all (λ x (g : ℕ → ℕ → _). P x y (g y 0)) j (at r (at 0 a (f j r)) (f j)) f
    (at_all (λ y (g : ℕ → _). P j y (g 0)) r (at 0 a (f j r)) (f j) new (λ y _. old j y) y) (λ x _. old x y) x

-- lane 0 is not touched where another one changes
pub lane_other : {A : Type 0} (P : ℕ → ℕ → A → Type 0) (j r k : ℕ) (a : A) (f : ℕ → ℕ → ℕ → A) → (0 ≡ k → ⊥) → ((x y : ℕ) → P x y (f x y 0)) → (x y : ℕ) → P x y (at_lane j r k a f x y 0)
lane_other P j r k a f ne old x y =
    at_all (λ x (g : ℕ → ℕ → _). P x y (g y 0)) j (at r (at k a (f j r)) (f j)) f
    (at_all (λ y (g : ℕ → _). P j y (g 0)) r (at k a (f j r)) (f j) (subst (P j r) (sym (at_other k a (f j r) 0 ne)) (old j r)) (λ y _. old j y) y) (λ x _. old x y) x

-- rows that pass a test are at most as many as the cards that meet it
pub count_bound : {A : Type 0} (up_to : A → A → Bool) (low high : A) (row : ℕ → A) (n : ℕ) (p : ℕ → Bool) → ((k : ℕ) → up_to low (row (suc k)) && up_to (row (suc k)) high ≡ true → p k ≡ true) → count_between up_to low high (rows_of row n) ≤ how_many p n
count_bound up_to low high row zero p h = omega arith
count_bound up_to low high row (suc n) p h = one (up_to low (row 1) && up_to (row 1) high) (p 0) (h 0) (count_bound up_to low high (λ j. row (suc j)) n (λ k. p (suc k)) (λ k. h (suc k)))
  where
    one : (a b : Bool) → (a ≡ true → b ≡ true) → count_between up_to low high (rows_of (λ j. row (suc j)) n) ≤ how_many (λ k. p (suc k)) n → cond a 1 0 + count_between up_to low high (rows_of (λ j. row (suc j)) n) ≤ cond b 1 0 + how_many (λ k. p (suc k)) n
    one true true i l = omega arith
    one true false i l = absurd (true≢false (sym (i refl)))
    one false true i l = omega arith
    one false false i l = omega arith
