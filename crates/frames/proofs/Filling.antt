-- What the writer's loop keeps: the fields before i stand in the slot, and zeros follow them.
use Rattle.std.proofs.Common.{◌≡◌, ℕ, zero, suc, ◌+◌, ◌-◌, ◌*◌, ◌^◌, ◌<◌, ◌≤◌, Bool, true, false, cond, eqb, List, [], ◌∷◌, ◌++◌, length, get_or, take, drop, set, replicate, sym, refl, ap, ◌∙◌, subst, append_assoc, append-nil, mul_assoc, one-mul, pow-suc, mul-zero, mul-one, mul-add, add-one, arith, length-append}
use lib.Lanes.{digits_l}
use lib.ListN.{length-replicate}
use Rattle.std.proofs.lemmas.List.{drop_more, take_at, drop_at, drop-drop, take-append-drop, length-take-le, replicate-append-replicate, drop-replicate, drop-append-le, drop_all}
use Rattle.std.proofs.lemmas.Bool.{eqb-true}
use Rattle.frames.specs.Slot.{bit_map, standing, Fits, field_widths, list_slot}
use Rattle.frames.proofs.Bytes.{length_digits, digits_wide, digits_zero}

-- where field i begins at the latest
abbrev pub reach : ℕ → ℕ
reach i = get_or (1 ∷ 2 ∷ 6 ∷ 7 ∷ 11 ∷ 19 ∷ 27 ∷ 35 ∷ 43 ∷ []) i 0

pub record Width (i : ℕ) : Type 0 where
  pub next : reach (i + 1) ≡ reach i + get_or field_widths i 0
  pub most : get_or field_widths i 0 ≤ 8
  pub room : reach i ≤ 35

pub width : (i : ℕ) → i < 8 → Width i
width zero h = record { next = refl; most = omega arith; room = omega arith }
width (suc zero) h = record { next = refl; most = omega arith; room = omega arith }
width (suc (suc zero)) h = record { next = refl; most = omega arith; room = omega arith }
width (suc (suc (suc zero))) h = record { next = refl; most = omega arith; room = omega arith }
width (suc (suc (suc (suc zero)))) h = record { next = refl; most = omega arith; room = omega arith }
width (suc (suc (suc (suc (suc zero))))) h = record { next = refl; most = omega arith; room = omega arith }
width (suc (suc (suc (suc (suc (suc zero)))))) h = record { next = refl; most = omega arith; room = omega arith }
width (suc (suc (suc (suc (suc (suc (suc zero))))))) h = record { next = refl; most = omega arith; room = omega arith }
width (suc (suc (suc (suc (suc (suc (suc (suc i)))))))) h = absurd (omega arith)

fits_at : (ws vs : List ℕ) (i d : ℕ) → Fits ws vs → i < length ws → get_or vs i 0 < 256 ^ get_or ws i d
fits_at [] vs i d fit h = absurd (omega arith)
fits_at (w ∷ ws) [] i d fit h = absurd fit
fits_at (w ∷ ws) (v ∷ vs) zero d fit h = fit.0
fits_at (w ∷ ws) (v ∷ vs) (suc i) d fit h = fits_at ws vs i d fit.1 (omega arith)

fits_length : (ws vs : List ℕ) → Fits ws vs → length ws ≡ length vs
fits_length [] [] fit = refl
fits_length [] (v ∷ vs) fit = absurd fit
fits_length (w ∷ ws) [] fit = absurd fit
fits_length (w ∷ ws) (v ∷ vs) fit = ap suc (fits_length ws vs fit.1)

pub record Filled (i at map bit : ℕ) (vs out rest : List ℕ) : Type 0 where
  pub front : take at out ++ standing (drop i field_widths) (drop i vs) ≡ 0 ∷ standing field_widths vs
  pub back : drop at out ≡ replicate (48 - at) 0 ++ rest
  pub bits : map + bit * bit_map (drop i vs) ≡ bit_map vs
  pub power : bit ≡ 2 ^ i
  pub below : map < bit
  pub begun : 1 ≤ at
  pub reached : at ≤ reach i

-- the bytes of field i, and the zeros after them in a word
record Word (w v k : ℕ) (own : List ℕ) : Type 0 where
  whole : digits_l 256 8 v ≡ own ++ replicate (8 - k) 0
  long : length own ≡ k
  short : k ≤ w

word : (w v : ℕ) (z : Bool) → eqb v 0 ≡ z → w ≤ 8 → v < 256 ^ w → Word w v (cond z 0 w) (cond z [] (digits_l 256 w v))
word w v true e h small = record { whole = ap (digits_l 256 8) (eqb-true v 0 e) ∙ digits_zero 8; long = refl; short = omega arith }
word w v false e h small =
    let eight : w + (8 - w) ≡ 8 = omega arith in
    record { whole = ap (λ n. digits_l 256 n v) (sym eight) ∙ digits_wide w (8 - w) v small; long = length_digits w v; short = omega arith }

bits_more : (z : Bool) (map bit rest total : ℕ) → map + bit * (cond z 0 1 + 2 * rest) ≡ total → cond z map (map + bit) + bit * 2 * rest ≡ total
bits_more true map bit rest total e = omega (arith, e, mul-add bit 0 (2 * rest), mul-zero bit, mul_assoc bit 2 rest)
bits_more false map bit rest total e = omega (arith, e, mul-add bit 1 (2 * rest), mul-one bit, mul_assoc bit 2 rest)

fill_more : (i at map bit v : ℕ) (vs out rest wrote : List ℕ) (z : Bool) → i < 8 → Fits field_widths vs → v ≡ get_or vs i 0 → eqb v 0 ≡ z → 48 ≤ length out → Filled i at map bit vs out rest → wrote ≡ take at out ++ (digits_l 256 8 v ++ drop (at + 8) out) → Filled (i + 1) (at + cond z 0 (get_or field_widths i 0)) (cond z map (map + bit)) (bit * 2) vs wrote rest
fill_more i at map bit v vs out rest wrote z within fit read test long f stored = record {
  front = ap (λ l. l ++ later) taken ∙ append_assoc (take at out) own later ∙ ap (λ l. take at out ++ l) (sym now_standing) ∙ f.front;
  back = ap (drop (at + k)) split ∙ drop_at (take at out ++ own) (replicate (48 - (at + k)) 0 ++ rest) (at + k) long_front;
  bits = bits_more z map bit (bit_map (drop (i + 1) vs)) (bit_map vs) (ap (λ b. map + bit * (cond b 0 1 + 2 * bit_map (drop (i + 1) vs))) (sym test) ∙ ap (λ l. map + bit * bit_map l) (sym values) ∙ f.bits);
  power = ap (λ b. b * 2) f.power ∙ sym (ap (λ n. 2 ^ n) (add-one i) ∙ pow-suc 2 i);
  below = lower z;
  begun = omega (arith, f.begun);
  reached = omega (arith, f.reached, size.next, here.short);
}
  where
    w : ℕ
    w = get_or field_widths i 0

    k : ℕ
    k = cond z 0 w

    own : List ℕ
    own = cond z [] (digits_l 256 w v)

    later : List ℕ
    later = standing (drop (i + 1) field_widths) (drop (i + 1) vs)

    size : Width i
    size = width i within

    long_values : length vs ≡ 8
    long_values = sym (fits_length field_widths vs fit)

    small : v < 256 ^ w
    small = subst (λ x. x < 256 ^ w) (sym read) (fits_at field_widths vs i 0 fit within)

    here : Word w v k own
    here = word w v z test size.most small

    values : drop i vs ≡ v ∷ drop (i + 1) vs
    values = drop_more vs i 0 (omega (arith, long_values)) ∙ ap (λ x. x ∷ drop (i + 1) vs) (sym read)

    now_standing : standing (drop i field_widths) (drop i vs) ≡ own ++ later
    now_standing = (λ j. standing (drop_more field_widths i 0 within j) (values j)) ∙ ap (λ b. cond b [] (digits_l 256 w v) ++ later) test

    room : at + 8 ≤ 48
    room = omega (arith, f.reached, size.room)

    zeros : drop (at + 8) out ≡ replicate (48 - at - 8) 0 ++ rest
    zeros =
        sym (drop-drop 8 at out) ∙ ap (drop 8) f.back
        ∙ drop-append-le 8 (replicate (48 - at) 0) rest (simp length-replicate (omega (arith, room)))
        ∙ ap (λ l. l ++ rest) (drop-replicate 8 (48 - at) 0)

    sum : (8 - k) + (48 - at - 8) ≡ 48 - (at + k)
    sum = omega (arith, here.short, size.most, room)

    joined : digits_l 256 8 v ++ drop (at + 8) out ≡ own ++ (replicate (48 - (at + k)) 0 ++ rest)
    joined =
        (λ j. here.whole j ++ zeros j)
        ∙ append_assoc own (replicate (8 - k) 0) (replicate (48 - at - 8) 0 ++ rest)
        ∙ ap (λ l. own ++ l) (sym (append_assoc (replicate (8 - k) 0) (replicate (48 - at - 8) 0) rest))
        ∙ ap (λ l. own ++ (l ++ rest)) (replicate-append-replicate (8 - k) (48 - at - 8) 0 ∙ ap (λ n. replicate n 0) sum)

    split : wrote ≡ (take at out ++ own) ++ (replicate (48 - (at + k)) 0 ++ rest)
    split = stored ∙ ap (λ l. take at out ++ l) joined ∙ sym (append_assoc (take at out) own (replicate (48 - (at + k)) 0 ++ rest))

    long_front : length (take at out ++ own) ≡ at + k
    long_front = length-append (take at out) own ∙ (λ j. length-take-le at out (omega (arith, room)) j + here.long j)

    taken : take (at + k) wrote ≡ take at out ++ own
    taken = ap (take (at + k)) split ∙ take_at (take at out ++ own) (replicate (48 - (at + k)) 0 ++ rest) (at + k) long_front

    lower : (z : Bool) → cond z map (map + bit) < bit * 2
    lower true = omega (arith, f.below)
    lower false = omega (arith, f.below)

-- the same, at the numbers that the loop holds after its turn
pub fill_next : (i at map bit v : ℕ) (vs out rest wrote : List ℕ) (z : Bool) (at' map' : ℕ) → i < 8 → Fits field_widths vs → v ≡ get_or vs i 0 → eqb v 0 ≡ z → 48 ≤ length out → Filled i at map bit vs out rest → wrote ≡ take at out ++ (digits_l 256 8 v ++ drop (at + 8) out) → at' ≡ at + cond z 0 (get_or field_widths i 0) → map' ≡ cond z map (map + bit) → Filled (i + 1) at' map' (bit * 2) vs wrote rest
fill_next i at map bit v vs out rest wrote z at' map' within fit read test long f stored ats maps =
    rw (ats, maps) (fill_more i at map bit v vs out rest wrote z within fit read test long f stored)

pub fill_none : (vs out rest : List ℕ) → out ≡ replicate 48 0 ++ rest → Filled 0 1 0 1 vs out rest
fill_none vs out rest e = record {
  front = ap (λ l. take 1 l ++ standing field_widths vs) e;
  back = ap (drop 1) e;
  bits = omega (arith, one-mul (bit_map vs));
  power = refl;
  below = omega arith;
  begun = omega arith;
  reached = omega arith;
}

-- after the last field, the bit map goes to the front
pub fill_all : (at map bit : ℕ) (vs out rest : List ℕ) → 48 ≤ length out → length vs ≡ 8 → Filled 8 at map bit vs out rest → set out 0 map ≡ list_slot vs ++ rest
fill_all at map bit vs out rest long eight f =
    ap (λ l. set l 0 map) (sym (take-append-drop at out) ∙ (λ j. front j ++ f.back j))
    ∙ (λ j. (mapped j ∷ standing field_widths vs) ++ (replicate (left j) 0 ++ rest))
    ∙ sym (append_assoc (bit_map vs ∷ standing field_widths vs) (replicate (47 - length (standing field_widths vs)) 0) rest)
  where
    none : drop 8 vs ≡ []
    none = drop_all 8 vs (omega (arith, eight))

    front : take at out ≡ 0 ∷ standing field_widths vs
    front = sym (append-nil (take at out)) ∙ f.front

    mapped : map ≡ bit_map vs
    mapped = omega (arith, ap (λ l. map + bit * bit_map l) none, f.bits, mul-zero bit)

    left : 48 - at ≡ 47 - length (standing field_widths vs)
    left = omega (arith, ap length front, length-take-le at out (omega (arith, f.reached)))

-- the slot's 48 bytes were zeros, and what lay past them stays
pub past_slot : (out zeros : List ℕ) → zeros ≡ replicate 48 0 → drop 48 (zeros ++ drop 48 out) ≡ drop 48 out
past_slot out zeros e = drop_at zeros (drop 48 out) 48 (ap length e)
