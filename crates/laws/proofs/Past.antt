-- What follows of the past alone: histories rise, and a chosen history begins every later one.
use Rattle.std.proofs.Common.{◌≡◌, ℕ, zero, suc, ◌+◌, ◌*◌, ◌/◌, ◌%◌, ◌<◌, ◌≤◌, true, ltb, List, [], ◌∷◌, ◌++◌, length, take, drop, sym, refl, ap, ◌∙◌, subst, ⊎_elim, arith}
use Rattle.std.specs.List.{AllByRecursion}
use Rattle.std.proofs.ByRecursion.{All-append, All-weaker}
use Rattle.std.proofs.lemmas.List.{append_assoc, take-append-drop, take-take}
use Rattle.std.proofs.lemmas.Bool.{cases_order, ltb-true}
use Rattle.marks.specs.Order.{header_below}
use Rattle.frames.specs.Fields.{EntryFields}
use Rattle.protocol.specs.Rows.{majority}
use Rattle.laws.specs.Laws.{Rising}
use Rattle.laws.proofs.Base.{hn, Up, Lt, shared, below_header}
use Rattle.laws.proofs.Inv.{Past, hist, Chosen, Numbered, Before, UpTo, Beyond, Sound}

-- two majorities meet
abbrev pub Meets : ℕ → Type 0
Meets n = n < majority n + majority n

-- entries (e, k+1) and on, up to the first m
numbered_take : (e k m : ℕ) (xs : List EntryFields) → Numbered e (suc k) xs → AllByRecursion (UpTo e (k + m)) (take m xs)
numbered_take e k zero xs h = tt
numbered_take e k (suc m) [] h = tt
numbered_take e k (suc m) (x ∷ xs) h =
    (subst (UpTo e (k + suc m)) refl (first x.header h.0), subst (λ j. AllByRecursion (UpTo e j) (take m xs)) (sums k m) (numbered_take e (suc k) m xs h.1))
  where
    sums : (a b : ℕ) → suc a + b ≡ a + suc b
    sums a b = omega arith

    first : (y : ℕ × ℕ × ℕ) → y ≡ (e / 8, e % 8, suc k) → UpTo e (k + suc m) (record { header = y; queue = x.queue; payload = x.payload })
    first y p = subst (λ t. UpTo e (k + suc m) (record { header = t; queue = x.queue; payload = x.payload })) (sym p) (record { led = omega arith; counted = omega arith; upto = record { epoch = omega arith; count = λ _. omega arith } })

-- and past the first m
numbered_drop : (e k m : ℕ) (xs : List EntryFields) → Numbered e (suc k) xs → AllByRecursion (Beyond e (k + m)) (drop m xs)
numbered_drop e k zero [] h = tt
numbered_drop e k zero (x ∷ xs) h = (first x.header h.0, All-weaker (Beyond e (suc k + 0)) (Beyond e (k + 0)) weaker xs (numbered_drop e (suc k) zero xs h.1))
  where
    first : (y : ℕ × ℕ × ℕ) → y ≡ (e / 8, e % 8, suc k) → Beyond e (k + 0) (record { header = y; queue = x.queue; payload = x.payload })
    first y p = subst (λ t. Beyond e (k + 0) (record { header = t; queue = x.queue; payload = x.payload })) (sym p) (record { led = omega arith; counted = omega arith; beyond = record { epoch = omega arith; count = λ _. omega arith } })

    weaker : (y : EntryFields) → Beyond e (suc k + 0) y → Beyond e (k + 0) y
    weaker y b = record { led = b.led; counted = b.counted; beyond = record { epoch = b.beyond.epoch; count = λ q. omega (arith, b.beyond.count q) } }
numbered_drop e k (suc m) [] h = tt
numbered_drop e k (suc m) (x ∷ xs) h = subst (λ j. AllByRecursion (Beyond e j) (drop m xs)) (sums k m) (numbered_drop e (suc k) m xs h.1)
  where
    sums : (a b : ℕ) → suc a + b ≡ a + suc b
    sums a b = omega arith

zero_plus : (m : ℕ) → 0 + m ≡ m
zero_plus m = omega arith

-- entries above (e, k) in an epoch e: what rises there
after_all : (e k : ℕ) (xs : List EntryFields) → Numbered e k xs → (r l c : ℕ) → l < 8 → Lt (r * 8 + l) c e k → AllByRecursion (λ (y : EntryFields). header_below (r, l, c) y.header ≡ true) xs
after_all e k [] h r l c b lt = tt
after_all e k (x ∷ xs) h r l c b lt = (here x.header h.0, after_all e (suc k) xs h.1 r l c b (record { epoch = lt.epoch; count = λ q. omega (arith, lt.count q) }))
  where
    here : (y : ℕ × ℕ × ℕ) → y ≡ (e / 8, e % 8, k) → header_below (r, l, c) y ≡ true
    here y p = subst (λ t. header_below (r, l, c) t ≡ true) (sym p) (below_header r l c (e / 8) (e % 8) k b (omega arith) (record { epoch = omega (arith, lt.epoch); count = λ q. lt.count (omega arith) }))

numbered_rising : (e k : ℕ) (xs : List EntryFields) → Numbered e k xs → Rising xs
numbered_rising e k [] h = tt
numbered_rising e k (x ∷ xs) h = (subst (λ t. AllByRecursion (λ (y : EntryFields). header_below t y.header ≡ true) xs) (sym h.0) (after_all e (suc k) xs h.1 (e / 8) (e % 8) k (omega arith) (record { epoch = omega arith; count = λ _. omega arith })), numbered_rising e (suc k) xs h.1)

pub rising_append : (xs ys : List EntryFields) → Rising xs → Rising ys → AllByRecursion (λ (x : EntryFields). AllByRecursion (λ (y : EntryFields). header_below x.header y.header ≡ true) ys) xs → Rising (xs ++ ys)
rising_append [] ys a b c = b
rising_append (x ∷ xs) ys a b c = (All-append _ xs ys a.0 c.0, rising_append xs ys a.1 b c.1)

pub numbered_front : (e k m : ℕ) (xs : List EntryFields) → Numbered e k xs → Numbered e k (take m xs)
numbered_front e k zero xs h = tt
numbered_front e k (suc m) [] h = tt
numbered_front e k (suc m) (x ∷ xs) h = (h.0, numbered_front e (suc k) m xs h.1)

-- one more at the end
pub numbered_more : (e k : ℕ) (xs : List EntryFields) (x : EntryFields) → Numbered e k xs → x.header ≡ (e / 8, e % 8, k + length xs) → Numbered e k (xs ++ x ∷ [])
numbered_more e k [] x h p = (p ∙ ap (λ m. (e / 8, e % 8, m)) (omega arith), tt)
numbered_more e k (y ∷ xs) x h p = (h.0, numbered_more e (suc k) xs x h.1 (p ∙ ap (λ m. (e / 8, e % 8, m)) (omega arith)))

module _ (H : Past) (n : ℕ) (W : Sound H n) where
  before_upto : (e k : ℕ) (x : EntryFields) → Before e x → UpTo e k x
  before_upto e k x b = record { led = b.led; counted = b.counted; upto = record { epoch = omega (arith, b.below); count = λ q. absurd (omega (arith, b.below)) } }

  sent_upto : (e k : ℕ) → H.won e ≡ true → AllByRecursion (UpTo e k) (take k (H.sent e))
  sent_upto e k w = subst (λ m. AllByRecursion (UpTo e m) (take k (H.sent e))) (zero_plus k) (numbered_take e 0 k (H.sent e) (W.numbered e w))

  pub sent_later : (e m : ℕ) → H.won e ≡ true → AllByRecursion (Beyond e 0) (take m (H.sent e))
  sent_later e m w = numbered_drop e 0 0 (take m (H.sent e)) (numbered_front e 1 m (H.sent e) (W.numbered e w))

  pub hist_upto : (e k : ℕ) → H.won e ≡ true → AllByRecursion (UpTo e k) (hist H e k)
  hist_upto e k w = All-append (UpTo e k) (H.start e) _ (All-weaker (Before e) (UpTo e k) (before_upto e k) (H.start e) (W.entries e w)) (sent_upto e k w)

  pub hist_rising : (e k : ℕ) → H.won e ≡ true → Rising (hist H e k)
  hist_rising e k w = rising_append (H.start e) (take k (H.sent e)) (W.rising e w) (numbered_rising e 1 _ front) (All-weaker (Before e) _ across (H.start e) (W.entries e w))
    where
      front : Numbered e 1 (take k (H.sent e))
      front = numbered_front e 1 k (H.sent e) (W.numbered e w)

      across : (x : EntryFields) → Before e x → AllByRecursion (λ (y : EntryFields). header_below x.header y.header ≡ true) (take k (H.sent e))
      across x b = after_all e 1 _ front x.header.0 x.header.1 x.header.2 b.led (record { epoch = omega (arith, b.below); count = λ q. absurd (omega (arith, b.below)) })

  -- what a later part of the same epoch adds lies beyond
  pub record Starts (E k : ℕ) (xs : List EntryFields) : Type 0 where
    pub rest : List EntryFields
    pub is : xs ≡ hist H E k ++ rest
    pub beyond : AllByRecursion (Beyond E k) rest

  -- within one epoch
  same_epoch : (e k m : ℕ) → H.won e ≡ true → k ≤ m → Starts e k (hist H e m)
  same_epoch e k m w l = record {
    rest = drop k (take m (H.sent e));
    is = ap (λ ys. H.start e ++ ys) (sym (take-append-drop k (take m (H.sent e))) ∙ ap (λ ys. ys ++ drop k (take m (H.sent e))) (take-take k m (H.sent e) l)) ∙ sym (append_assoc (H.start e) (take k (H.sent e)) (drop k (take m (H.sent e))));
    beyond = subst (λ j. AllByRecursion (Beyond e j) (drop k (take m (H.sent e)))) (zero_plus k) (numbered_drop e 0 k (take m (H.sent e)) (numbered_front e 1 m (H.sent e) (W.numbered e w)));
  }

  -- a longer list begins likewise, if what is added lies in a later epoch
  lengthen : (E k e m : ℕ) → H.won e ≡ true → E < e → Starts E k (H.start e) → Starts E k (hist H e m)
  lengthen E k e m w l s = record {
    rest = s.rest ++ take m (H.sent e);
    is = ap (λ ys. ys ++ take m (H.sent e)) s.is ∙ append_assoc (hist H E k) s.rest (take m (H.sent e));
    beyond = All-append (Beyond E k) s.rest _ s.beyond (All-weaker (Beyond e 0) (Beyond E k) over (take m (H.sent e)) (sent_later e m w));
  }
    where
      over : (x : EntryFields) → Beyond e 0 x → Beyond E k x
      over x u = record { led = u.led; counted = u.counted; beyond = record { epoch = omega (arith, u.beyond.epoch); count = λ q. absurd (omega (arith, u.beyond.epoch)) } }

  module _ (meets : Meets n) where
    -- a chosen history begins every later one
    begins_fuel : (fuel E k e m : ℕ) → e < fuel → Chosen H n E k → H.won e ≡ true → Up E k e m → Starts E k (hist H e m)
    begins_fuel zero E k e m f c w u = absurd (omega arith)
    begins_fuel (suc fuel) E k e m f c w u = ⊎_elim same (⊎_elim (later (begins_fuel fuel E k)) (λ l. absurd (omega (arith, u.epoch)))) (cases_order E e)
      where
        same : E ≡ e → Starts E k (hist H e m)
        same p = subst (λ x. Starts x k (hist H e m)) (sym p) (same_epoch e k m w (u.count p))

        later : ((e m : ℕ) → e < fuel → Chosen H n E k → H.won e ≡ true → Up E k e m → Starts E k (hist H e m)) → E < e → Starts E k (hist H e m)
        later back l =
            let from = W.from e w (omega arith) in
            let q = shared (λ q. H.cast (suc q) e) (λ q. ltb k (H.top (suc q) E)) n (omega (arith, from.voted)) in
            let upto = W.promise (suc q.0) e E k q.1 l (ltb-true k (H.top (suc q.0) E) q.2) in
            lengthen E k e m w l (subst (Starts E k) (sym from.begun) (back (hn (H.head e)) (H.head e).2 (omega (arith, from.below)) c from.won upto))

    pub begins : (E k e m : ℕ) → Chosen H n E k → H.won e ≡ true → Up E k e m → Starts E k (hist H e m)
    begins E k e m = begins_fuel (suc e) E k e m (omega arith)
