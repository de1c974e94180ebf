-- What the search for a header finds in a card's log, and what the filters on its log leave.
use Rattle.std.proofs.Common.{◌≡◌, ℕ, zero, suc, ◌+◌, ◌*◌, ◌<◌, ◌≤◌, Bool, true, false, cond, ◌&&◌, List, [], ◌∷◌, ◌++◌, length, take, Some, None, filter, Option, sym, refl, ap, ◌∙◌, subst, ⊎_elim, arith}
use Rattle.std.specs.List.{AllByRecursion}
use Rattle.std.specs.Option.{option_or}
use Rattle.std.proofs.lemmas.List.Elements.{filter-append}
use Rattle.std.proofs.ByRecursion.{All-append, All-weaker}
use Rattle.std.proofs.lemmas.List.{append-nil, take-take, length-take}
use Rattle.std.proofs.lemmas.Bool.Decides.{nat_tests}
use Rattle.std.proofs.lemmas.Bool.{and_parts, and_right, eqb-true}
use Rattle.marks.specs.Orders.{header_order}
use Rattle.marks.specs.Kinds.{Header}
use Rattle.marks.specs.Order.{header_below, header_up_to}
use Rattle.frames.specs.Fields.{EntryFields}
use Rattle.protocol.specs.Booking.{is_header, entry_at, inside}
use Rattle.protocol.specs.Committing.{last_header}
use Rattle.laws.proofs.Base.{en, hn, kept_all, kept_none, below_header, not_below_header}
use Rattle.laws.proofs.Inv.{Past, hist, Numbered, Before, Beyond, Sound, View, CardOk}
use Rattle.laws.specs.Laws.{Rising}
use Rattle.laws.proofs.Past.{numbered_front, sent_later}

-- what is found has the header, and is one of the entries
pub found_one : (Q : EntryFields → Type 0) (h : Header) (xs : List EntryFields) (x : EntryFields) → AllByRecursion Q xs → entry_at h xs ≡ Some x → Q x × (x.header ≡ h)
found_one Q h [] x q e = absurd (let z : ◌≡◌ {A = ℕ} 0 1 = cc in omega arith)
found_one Q h (y ∷ ys) x q e = by (entry_at h ys) refl (found_one Q h ys x q.1) e
  where
    here : (b : Bool) → is_header y.header h ≡ b → cond b (Some y) None ≡ Some x → Q x × (x.header ≡ h)
    here true t e =
        let same : y ≡ x = cc in
        let p = and_parts _ _ t in
        let r = and_parts _ _ p.1 in
        let a = eqb-true _ _ p.0 in
        let b = eqb-true _ _ r.0 in
        let c = eqb-true _ _ r.1 in
        subst (λ w. Q w × (w.header ≡ h)) same (q.0, λ i. (a i, b i, c i))
    here false t e = absurd (let z : ◌≡◌ {A = ℕ} 0 1 = cc in omega arith)

    by : (o : Option EntryFields) → entry_at h ys ≡ o → (entry_at h ys ≡ Some x → Q x × (x.header ≡ h)) → option_or o (cond (is_header y.header h) (Some y) None) ≡ Some x → Q x × (x.header ≡ h)
    by None p rest e = here (is_header y.header h) refl e
    by (Some w) p rest e = rest (p ∙ e)

-- the entry (e, c + k + 1) of entries (e, c + 1) and on
numbered_at : (e c : ℕ) (xs : List EntryFields) → Numbered e (suc c) xs → AllByRecursion (λ (x : EntryFields). (k : ℕ) → x.header.2 ≡ suc (c + k) → (k < length xs) × (take (suc k) xs ≡ take k xs ++ x ∷ [])) xs
numbered_at e c [] h = tt
numbered_at e c (y ∷ ys) h = (first, All-weaker _ _ later ys (both _ _ ys (numbered_at e (suc c) ys h.1) (counts (suc c) ys h.1)))
  where
    counts : (c : ℕ) (zs : List EntryFields) → Numbered e (suc c) zs → AllByRecursion (λ (x : EntryFields). suc c ≤ x.header.2) zs
    counts c [] h = tt
    counts c (w ∷ ws) h = (omega (arith, ap (λ (t : Header). t.2) h.0), All-weaker _ _ (λ x l. omega arith) ws (counts (suc c) ws h.1))

    both : (P Q : EntryFields → Type 0) (zs : List EntryFields) → AllByRecursion P zs → AllByRecursion Q zs → AllByRecursion (λ x. P x × Q x) zs
    both P Q [] p q = tt
    both P Q (w ∷ ws) p q = ((p.0, q.0), both P Q ws p.1 q.1)

    first : (k : ℕ) → y.header.2 ≡ suc (c + k) → (k < suc (length ys)) × (take (suc k) (y ∷ ys) ≡ take k (y ∷ ys) ++ y ∷ [])
    first zero q = (omega arith, refl)
    first (suc k) q = absurd (omega (arith, q, ap (λ (t : Header). t.2) h.0))

    later : (x : EntryFields) → ((k : ℕ) → x.header.2 ≡ suc (suc c + k) → (k < length ys) × (take (suc k) ys ≡ take k ys ++ x ∷ [])) × (suc (suc c) ≤ x.header.2) → (k : ℕ) → x.header.2 ≡ suc (c + k) → (k < suc (length ys)) × (take (suc k) (y ∷ ys) ≡ take k (y ∷ ys) ++ x ∷ [])
    later x r zero q = absurd (omega (arith, q, r.1))
    later x r (suc k) q = let g = r.0 k (omega (arith, q)) in (omega (arith, g.0), ap (λ ys. y ∷ ys) g.1)

pub record InLog (H : Past) (e k m : ℕ) (h : Header) (x : EntryFields) : Type 0 where
  pub header : x.header ≡ h
  pub within : suc k ≤ m
  pub sent : suc k ≤ length (H.sent e)
  pub adds : take (suc k) (H.sent e) ≡ take k (H.sent e) ++ x ∷ []

-- the entry of the log with this header of the epoch is the next one that was sent
pub in_log : (H : Past) (n : ℕ) → Sound H n → (r l k m : ℕ) (x : EntryFields) → l < 8 → H.won (r * 8 + l) ≡ true → entry_at (r, l, suc k) (hist H (r * 8 + l) m) ≡ Some x → InLog H (r * 8 + l) k m (r, l, suc k) x
in_log H n W r l k m x small w f =
    let g = found_one Q (r, l, suc k) (hist H e m) x (All-append Q (H.start e) (take m (H.sent e)) (All-weaker (Before e) Q early (H.start e) (W.entries e w)) (All-weaker _ Q late (take m (H.sent e)) (numbered_at e 0 (take m (H.sent e)) (numbered_front e 1 m (H.sent e) (W.numbered e w))))) f in
    let q = g.0 g.1 in
    record {
      header = g.1;
      within = omega (arith, q.0, length-take m (H.sent e));
      sent = omega (arith, q.0, length-take m (H.sent e));
      adds = sym (take-take (suc k) m (H.sent e) (omega (arith, q.0, length-take m (H.sent e)))) ∙ q.1 ∙ ap (λ ys. ys ++ x ∷ []) (take-take k m (H.sent e) (omega (arith, q.0, length-take m (H.sent e))));
    }
  where
    e : ℕ
    e = r * 8 + l

    Q : EntryFields → Type 0
    Q y = y.header ≡ (r, l, suc k) → (k < length (take m (H.sent (r * 8 + l)))) × (take (suc k) (take m (H.sent (r * 8 + l))) ≡ take k (take m (H.sent (r * 8 + l))) ++ y ∷ [])

    early : (y : EntryFields) → Before (r * 8 + l) y → Q y
    early y b q = absurd (omega (arith, b.below, ap hn q))

    late : (y : EntryFields) → ((j : ℕ) → y.header.2 ≡ suc (0 + j) → (j < length (take m (H.sent (r * 8 + l)))) × (take (suc j) (take m (H.sent (r * 8 + l))) ≡ take j (take m (H.sent (r * 8 + l))) ++ y ∷ [])) → Q y
    late y f q = f k (omega (arith, ap (λ (t : Header). t.2) q))

-- the same in the log of a card, of its current epoch
module _ {H : Past} {n i : ℕ} {v : View} {log d : List EntryFields} (W : Sound H n) (C : CardOk H n i v log d) where
  pub in_current : (k : ℕ) (x : EntryFields) → entry_at (v.current.0, v.current.1, suc k) log ≡ Some x → InLog H (en v.current) k v.accepted.2 (v.current.0, v.current.1, suc k) x
  in_current k x f = in_log H n W v.current.0 v.current.1 k v.accepted.2 x C.cur_led C.cur_won (subst (λ ys. entry_at (v.current.0, v.current.1, suc k) ys ≡ Some x) C.log_is f)

kept_same : {X : Type 0} (p q : X → Bool) (xs : List X) → AllByRecursion (λ x. p x ≡ q x) xs → filter p xs ≡ filter q xs
kept_same p q [] h = refl
kept_same p q (x ∷ xs) h = ap (λ b. cond b (x ∷ filter p xs) (filter p xs)) h.0 ∙ ap (λ ys. cond (q x) (x ∷ ys) ys) (kept_same p q xs h.1)

and_true : (a b : Bool) → b ≡ true → a && b ≡ a
and_true true b h = h
and_true false b h = refl

-- of a history, what lies below (e, 0) is in its start
pub inside_start : (H : Past) (n : ℕ) → Sound H n → (low : Header) (r l m : ℕ) → l < 8 → H.won (r * 8 + l) ≡ true → filter (inside low (r, l, 0)) (hist H (r * 8 + l) m) ≡ filter (λ (x : EntryFields). header_below low x.header) (H.start (r * 8 + l))
inside_start H n W low r l m small w =
    filter-append (inside low (r, l, 0)) (H.start (r * 8 + l)) (take m (H.sent (r * 8 + l)))
    ∙ ap (λ ys. filter (inside low (r, l, 0)) (H.start (r * 8 + l)) ++ ys) (kept_none (inside low (r, l, 0)) _ (All-weaker (Beyond (r * 8 + l) 0) _ late _ (sent_later H n W (r * 8 + l) m w)))
    ∙ append-nil _
    ∙ kept_same (inside low (r, l, 0)) (λ (x : EntryFields). header_below low x.header) (H.start (r * 8 + l)) (All-weaker (Before (r * 8 + l)) _ early _ (W.entries _ w))
  where
    early : (x : EntryFields) → Before (r * 8 + l) x → inside low (r, l, 0) x ≡ header_below low x.header
    early x b = and_true _ _ (below_header x.header.0 x.header.1 x.header.2 r l 0 b.led small (record { epoch = omega (arith, b.below); count = λ q. absurd (omega (arith, q, b.below)) }))

    late : (x : EntryFields) → Beyond (r * 8 + l) 0 x → inside low (r, l, 0) x ≡ false
    late x b = and_right _ _ (not_below_header x.header.0 x.header.1 x.header.2 r l 0 b.led small (record { epoch = b.beyond.epoch; count = λ _. omega arith }))

-- a list in two parts, of which a filter keeps one
pub keeps_second : (p : EntryFields → Bool) (xs ys zs : List EntryFields) → xs ≡ ys ++ zs → AllByRecursion (λ x. p x ≡ false) ys → AllByRecursion (λ x. p x ≡ true) zs → filter p xs ≡ zs
keeps_second p xs ys zs e a b = ap (filter p) e ∙ filter-append p ys zs ∙ ap (λ ws. ws ++ filter p zs) (kept_none p ys a) ∙ kept_all p zs b

pub keeps_first : (p : EntryFields → Bool) (xs ys zs : List EntryFields) → xs ≡ ys ++ zs → AllByRecursion (λ x. p x ≡ true) ys → AllByRecursion (λ x. p x ≡ false) zs → filter p xs ≡ ys
keeps_first p xs ys zs e a b = ap (filter p) e ∙ filter-append p ys zs ∙ ap (λ ws. filter p ys ++ ws) (kept_none p zs b) ∙ append-nil _ ∙ kept_all p ys a

-- the last header is one of them, or the one before
pub last_of : (P : Header → Type 0) (h : Header) (xs : List EntryFields) → P h → AllByRecursion (λ (x : EntryFields). P x.header) xs → P (last_header h xs)
last_of P h [] p q = p
last_of P h (x ∷ xs) p q = last_of P x.header xs q.0 q.1

pub last_append : (h : Header) (xs ys : List EntryFields) → last_header h (xs ++ ys) ≡ last_header (last_header h xs) ys
last_append h [] ys = refl
last_append h (x ∷ xs) ys = last_append x.header xs ys

below_upto : (a b : Header) → header_below a b ≡ true → header_up_to a b ≡ true
below_upto a b h = grind (arith, nat_tests)

pub upto_not_below : (a b : Header) → header_up_to a b ≡ true → header_below b a ≡ false
upto_not_below a b h = grind (arith, nat_tests)

-- the entries of a rising list are at most its last
pub rising_last : (h : Header) (xs : List EntryFields) → Rising xs → AllByRecursion (λ (x : EntryFields). header_up_to x.header (last_header h xs) ≡ true) xs
rising_last h [] r = tt
rising_last h (x ∷ xs) r = (last_of (λ (y : Header). header_up_to x.header y ≡ true) x.header xs (⊎_elim (λ t. t) (λ t. t) (header_order.compares x.header x.header)) (All-weaker _ _ (λ y t. below_upto x.header y.header t) xs r.0), rising_last x.header xs r.1)
