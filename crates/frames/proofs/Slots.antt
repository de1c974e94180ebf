-- What a slot's bytes say, field by field: the way back from bytes to fields.
use Rattle.std.proofs.Common.{◌≡◌, ℕ, zero, suc, ◌+◌, ◌*◌, ◌/◌, ◌%◌, ◌^◌, ◌<◌, ◌≤◌, Bool, true, false, cond, not, ◌&&◌, eqb, List, [], ◌∷◌, ◌++◌, length, take, drop, sym, refl, ap, ◌∙◌, append_assoc, arith, lit≤, length-append, length-drop}
use native.Mathlib.Nat.{pow-zero, pow-succ', one-le-pow}
use lib.Lanes.{digits_l, number_l, Each1}
use lib.ListN.{length-replicate}
use Rattle.std.proofs.lemmas.List.{take_at, drop_at, take-append-drop, length-take-le}
use Rattle.std.proofs.lemmas.Bool.{eqb-true, eqb-false, eq-eqb, and_parts, not-true}
use Rattle.frames.specs.Slot.{bit_map, standing, Fits, field_widths, list_slot}
use Rattle.frames.specs.Made.{field, after, fields}
use Rattle.frames.proofs.Bytes.{length_digits, number_digits, digits_number, number_lt}

abbrev pub total : List ℕ → ℕ
total [] = 0
total (w ∷ ws) = w + total ws

-- a field that stands is not 0
abbrev pub honest : ℕ → ℕ → List ℕ → Bool
honest w m bs = cond (eqb (m % 2) 0) true (not (eqb (number_l 256 (take w bs)) 0))

abbrev pub tail : List ℕ → ℕ → List ℕ → List ℕ
tail [] m bs = bs
tail (w ∷ ws) m bs = tail ws (m / 2) (after w m bs)

abbrev pub sound : List ℕ → ℕ → List ℕ → Bool
sound [] m bs = true
sound (w ∷ ws) m bs = honest w m bs && sound ws (m / 2) (after w m bs)

-- what stands in a slot is read back
pub record Back (ws vs t bs : List ℕ) (m : ℕ) : Type 0 where
  pub values : fields ws m bs ≡ vs
  pub left : tail ws m bs ≡ t
  pub whole : sound ws m bs ≡ true

record One (w v m : ℕ) (bs cs : List ℕ) : Type 0 where
  value : field w m bs ≡ v
  next : after w m bs ≡ cs
  fair : honest w m bs ≡ true

one_back : (w v b : ℕ) (cs : List ℕ) (z : Bool) → v < 256 ^ w → eqb v 0 ≡ z → One w v (cond z 0 1 + 2 * b) (cond z [] (digits_l 256 w v) ++ cs) cs
one_back w v b cs true h e =
    let even : (0 + 2 * b) % 2 ≡ 0 = omega arith in
    let off = eq-eqb ((0 + 2 * b) % 2) 0 even in
    record {
      value = rw off (sym (eqb-true v 0 e));
      next = rw off refl;
      fair = rw off refl;
    }
one_back w v b cs false h e =
    let odd : (1 + 2 * b) % 2 ≡ 1 = omega arith in
    let on = ap (λ k. eqb k 0) odd in
    let bytes : take w (digits_l 256 w v ++ cs) ≡ digits_l 256 w v = take_at (digits_l 256 w v) cs w (length_digits w v) in
    let number : number_l 256 (take w (digits_l 256 w v ++ cs)) ≡ v = ap (number_l 256) bytes ∙ number_digits w v h in
    record {
      value = rw on number;
      next = rw on (drop_at (digits_l 256 w v) cs w (length_digits w v));
      fair = rw on (ap not (ap (λ k. eqb k 0) number ∙ e));
    }

half : (z : Bool) (b : ℕ) → (cond z 0 1 + 2 * b) / 2 ≡ b
half true b = omega arith
half false b = omega arith

pub back : (ws vs t : List ℕ) → Fits ws vs → Back ws vs t (standing ws vs ++ t) (bit_map vs)
back [] [] t fit = record { values = refl; left = refl; whole = refl }
back [] (v ∷ vs) t fit = absurd fit
back (w ∷ ws) [] t fit = absurd fit
back (w ∷ ws) (v ∷ vs) t fit = go (back ws vs t fit.1) (one_back w v (bit_map vs) (standing ws vs ++ t) (eqb v 0) fit.0 refl)
  where
    z : Bool
    z = eqb v 0

    m : ℕ
    m = cond z 0 1 + 2 * bit_map vs

    cs : List ℕ
    cs = standing ws vs ++ t

    joined : (cond z [] (digits_l 256 w v) ++ standing ws vs) ++ t ≡ cond z [] (digits_l 256 w v) ++ cs
    joined = append_assoc (cond z [] (digits_l 256 w v)) (standing ws vs) t

    go : Back ws vs t cs (bit_map vs) → One w v m (cond z [] (digits_l 256 w v) ++ cs) cs → Back (w ∷ ws) (v ∷ vs) t ((cond z [] (digits_l 256 w v) ++ standing ws vs) ++ t) m
    go rest one = rw joined (record {
      values = λ i. one.value i ∷ (ap (λ k. fields ws k (after w m (cond z [] (digits_l 256 w v) ++ cs))) (half z (bit_map vs)) ∙ ap (fields ws (bit_map vs)) one.next ∙ rest.values) i;
      left = ap (λ k. tail ws k (after w m (cond z [] (digits_l 256 w v) ++ cs))) (half z (bit_map vs)) ∙ ap (tail ws (bit_map vs)) one.next ∙ rest.left;
      whole = ap (λ b. b && sound ws (m / 2) (after w m (cond z [] (digits_l 256 w v) ++ cs))) one.fair ∙ ap (λ k. sound ws k (after w m (cond z [] (digits_l 256 w v) ++ cs))) (half z (bit_map vs)) ∙ ap (sound ws (bit_map vs)) one.next ∙ rest.whole;
    })

-- what reads soundly is what those fields stand for
pub record Forth (ws : List ℕ) (m : ℕ) (bs : List ℕ) : Type 0 where
  pub fit : Fits ws (fields ws m bs)
  pub map : bit_map (fields ws m bs) ≡ m
  pub bytes : standing ws (fields ws m bs) ++ tail ws m bs ≡ bs

each_take : (n : ℕ) (bs : List ℕ) → Each1 (λ b. b < 256) bs → Each1 (λ b. b < 256) (take n bs)
each_take zero bs h = tt
each_take (suc n) [] h = tt
each_take (suc n) (b ∷ bs) h = (h.0, each_take n bs h.1)

each_drop : (n : ℕ) (bs : List ℕ) → Each1 (λ b. b < 256) bs → Each1 (λ b. b < 256) (drop n bs)
each_drop zero bs h = h
each_drop (suc n) [] h = tt
each_drop (suc n) (b ∷ bs) h = each_drop n bs h.1

record Step (w m rest : ℕ) (bs : List ℕ) (v : ℕ) (cs : List ℕ) : Type 0 where
  fits : v < 256 ^ w
  bit : cond (eqb v 0) 0 1 ≡ m % 2
  bytes : cond (eqb v 0) [] (digits_l 256 w v) ++ cs ≡ bs
  each : Each1 (λ b. b < 256) cs
  long : rest ≤ length cs

step : (w m rest : ℕ) (bs : List ℕ) (even : Bool) → eqb (m % 2) 0 ≡ even → honest w m bs ≡ true → Each1 (λ b. b < 256) bs → w + rest ≤ length bs → Step w m rest bs (cond even 0 (number_l 256 (take w bs))) (cond even bs (drop w bs))
step w m rest bs true e fair each long =
    record { fits = omega (arith, one-le-pow w 256 (lit≤ tt)); bit = sym (eqb-true (m % 2) 0 e); bytes = refl; each = each; long = omega arith }
step w m rest bs false e fair each long =
    let long_take : length (take w bs) ≡ w = length-take-le w bs (omega arith) in
    let odd : m % 2 ≡ 1 = omega (arith, eqb-false (m % 2) 0 e) in
    let stands : eqb (number_l 256 (take w bs)) 0 ≡ false = not-true _ (rw e at fair) in
    let small : number_l 256 (take w bs) < 256 ^ w = rw long_take at (number_lt (take w bs) (each_take w bs each)) in
    let same : digits_l 256 w (number_l 256 (take w bs)) ≡ take w bs = rw long_take at (digits_number (take w bs) (each_take w bs each)) in
    record {
      fits = small;
      bit = rw (stands, odd) refl;
      bytes = rw (stands, same) (take-append-drop w bs);
      each = each_drop w bs each;
      long = simp length-drop (omega arith);
    }

pub forth : (ws : List ℕ) (m : ℕ) (bs : List ℕ) → sound ws m bs ≡ true → m < 2 ^ length ws → Each1 (λ b. b < 256) bs → total ws ≤ length bs → Forth ws m bs
forth [] m bs s small each long = record { fit = tt; map = omega (arith, pow-zero 2); bytes = refl }
forth (w ∷ ws) m bs s small each long =
    let parts = and_parts (honest w m bs) (sound ws (m / 2) (after w m bs)) s in
    let here = step w m (total ws) bs (eqb (m % 2) 0) refl parts.0 each long in
    let there = forth ws (m / 2) (after w m bs) parts.1 (omega (arith, pow-succ' 2 (length ws))) here.each here.long in
    record {
      fit = (here.fits, there.fit);
      map = omega (arith, here.bit, there.map);
      bytes = append_assoc (cond (eqb (field w m bs) 0) [] (digits_l 256 w (field w m bs))) (standing ws (fields ws (m / 2) (after w m bs))) (tail ws (m / 2) (after w m bs)) ∙ ap (λ l. cond (eqb (field w m bs) 0) [] (digits_l 256 w (field w m bs)) ++ l) there.bytes ∙ here.bytes;
    }

pub length_standing : (ws vs : List ℕ) → length (standing ws vs) ≤ total ws
length_standing [] vs = omega arith
length_standing (w ∷ ws) [] = omega arith
length_standing (w ∷ ws) (v ∷ vs) = simp length-append (omega (arith, one (eqb v 0), length_standing ws vs))
  where
    one : (z : Bool) → length (cond z [] (digits_l 256 w v)) ≤ w
    one true = omega arith
    one false = omega (arith, length_digits w v)

pub length_slot : (vs : List ℕ) → length (list_slot vs) ≡ 48
length_slot vs = simp (length-append, length-replicate) (omega (arith, length_standing field_widths vs))
