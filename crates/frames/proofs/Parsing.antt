-- What the reader's loop keeps: the fields before i are read, and what is left gives the others.
use Rattle.std.proofs.Common.{◌≡◌, ℕ, zero, suc, ◌+◌, ◌-◌, ◌/◌, ◌%◌, ◌<◌, ◌≤◌, true, false, not, ◌&&◌, eqb, List, [], ◌∷◌, ◌++◌, length, get_or, take, drop, set, replicate, sym, refl, ap, ◌∙◌, subst, append_assoc, append-nil, arith, length-append, length-drop, length-set}
use lib.Lanes.{number_l, Each1}
use Rattle.std.proofs.lemmas.List.{drop_more, take_more, take_more_set, drop-drop, take_all, drop-set-lt, get_or-drop}
use Rattle.std.specs.List.{list_all}
use Rattle.std.proofs.lemmas.Simd.{Each1-get_or}
use Rattle.std.proofs.lemmas.Bool.{eqb-true, eq-eqb, ne_eqb, and_parts, true≢false}
use Rattle.frames.specs.Slot.{bit_map, standing, Fits, field_widths, list_slot}
use Rattle.frames.specs.Made.{field, after, fields}
use Rattle.frames.proofs.Slots.{honest, tail, sound, back, forth, Forth}
use Rattle.frames.proofs.Filling.{reach, width}

pub record Read (i at left : ℕ) (values slot : List ℕ) : Type 0 where
  pub told : take i values ++ fields (drop i field_widths) left (drop at slot) ≡ fields field_widths (get_or slot 0 0) (drop 1 slot)
  pub rest : tail (drop i field_widths) left (drop at slot) ≡ tail field_widths (get_or slot 0 0) (drop 1 slot)
  pub fair : sound (drop i field_widths) left (drop at slot) ≡ sound field_widths (get_or slot 0 0) (drop 1 slot)
  pub eight : length values ≡ 8
  pub blank : drop i values ≡ replicate (8 - i) 0
  pub begun : 1 ≤ at
  pub reached : at ≤ reach i

pub read_none : (slot : List ℕ) → Read 0 1 (get_or slot 0 0) (replicate 8 0) slot
read_none slot = record { told = refl; rest = refl; fair = refl; eight = refl; blank = refl; begun = omega arith; reached = omega arith }

-- one field more, whether it stands or not
step : (i at left at' : ℕ) (values values' slot : List ℕ) → i < 8 → Read i at left values slot → honest (get_or field_widths i 0) left (drop at slot) ≡ true → take (i + 1) values' ≡ take i values ++ (field (get_or field_widths i 0) left (drop at slot) ∷ []) → drop (i + 1) values' ≡ drop (i + 1) values → length values' ≡ length values → drop at' slot ≡ after (get_or field_widths i 0) left (drop at slot) → at ≤ at' → at' ≤ at + get_or field_widths i 0 → Read (i + 1) at' (left / 2) values' slot
step i at left at' values values' slot within r true_field taken kept long moved low high = record {
  told =
      (λ j. taken j ++ fields (drop (i + 1) field_widths) (left / 2) (moved j))
      ∙ append_assoc (take i values) (field w left bs ∷ []) (fields (drop (i + 1) field_widths) (left / 2) (after w left bs))
      ∙ ap (λ ws. take i values ++ fields ws left bs) (sym widths)
      ∙ r.told;
  rest = ap (tail (drop (i + 1) field_widths) (left / 2)) moved ∙ ap (λ ws. tail ws left bs) (sym widths) ∙ r.rest;
  fair =
      ap (sound (drop (i + 1) field_widths) (left / 2)) moved
      ∙ ap (λ b. b && sound (drop (i + 1) field_widths) (left / 2) (after w left bs)) (sym true_field)
      ∙ ap (λ ws. sound ws left bs) (sym widths)
      ∙ r.fair;
  eight = long ∙ r.eight;
  blank = kept ∙ sym (drop-drop 1 i values) ∙ ap (drop 1) r.blank ∙ shorter;
  begun = omega (arith, r.begun);
  reached = omega (arith, r.reached, (width i within).next);
}
  where
    w : ℕ
    w = get_or field_widths i 0

    bs : List ℕ
    bs = drop at slot

    widths : drop i field_widths ≡ w ∷ drop (i + 1) field_widths
    widths = drop_more field_widths i 0 within

    shorter : drop 1 (replicate {A = ℕ} (8 - i) 0) ≡ replicate (8 - (i + 1)) 0
    shorter =
        let more : 8 - i ≡ suc (8 - (i + 1)) = omega arith in
        ap (λ n. drop 1 (replicate {A = ℕ} n 0)) more

-- a field that does not stand
pub read_off : (i at left : ℕ) (values slot : List ℕ) → i < 8 → Read i at left values slot → left % 2 ≡ 0 → Read (i + 1) at (left / 2) values slot
read_off i at left values slot within r even =
    step i at left at values values slot within r (rw off refl) (take_more values i 0 (omega (arith, r.eight)) ∙ ap (λ v. take i values ++ (v ∷ [])) (zero_here ∙ sym (rw off refl)))
    refl refl (sym (rw off refl)) (omega arith) (omega arith)
  where
    off : eqb (left % 2) 0 ≡ true
    off = eq-eqb (left % 2) 0 even

    zero_here : get_or values i 0 ≡ 0
    zero_here =
        let more : 8 - i ≡ suc (8 - (i + 1)) = omega arith in
        let plain : i + 0 ≡ i = omega arith in
        sym (ap (λ k. get_or values k 0) plain) ∙ sym (get_or-drop i values 0 0) ∙ ap (λ l. get_or l 0 0) r.blank ∙ ap (λ n. get_or (replicate {A = ℕ} n 0) 0 0) more

-- a field that stands
pub read_on : (i at left v : ℕ) (values slot : List ℕ) → i < 8 → Read i at left values slot → left % 2 ≡ 1 → v ≡ number_l 256 (take (get_or field_widths i 0) (drop at slot)) → (v ≡ 0 → ⊥) → Read (i + 1) (at + get_or field_widths i 0) (left / 2) (set values i v) slot
read_on i at left v values slot within r odd read nonzero =
    step i at left (at + w) values (set values i v) slot within r fair_field
    (take_more_set values i v (omega (arith, r.eight)) ∙ ap (λ x. take i values ++ (x ∷ [])) (read ∙ sym (rw on refl)))
    (drop-set-lt (i + 1) values i v (omega arith)) (length-set values i v) (sym (drop-drop w at slot) ∙ sym (rw on refl)) (omega arith) (omega arith)
  where
    w : ℕ
    w = get_or field_widths i 0

    on : eqb (left % 2) 0 ≡ false
    on = ap (λ k. eqb k 0) odd

    fair_field : honest w left (drop at slot) ≡ true
    fair_field = rw on (ap not (ap (λ k. eqb k 0) (sym read) ∙ ne_eqb v 0 nonzero))

-- bytes that are a slot: the map and the fields are the slot's own, and zeros follow
pub record Sound (slot : List ℕ) : Type 0 where
  pub whole : sound field_widths (get_or slot 0 0) (drop 1 slot) ≡ true
  pub zeros : (k : ℕ) → get_or (tail field_widths (get_or slot 0 0) (drop 1 slot)) k 0 ≡ 0

pub slot_sound : (vs slot : List ℕ) → Fits field_widths vs → list_slot vs ≡ slot → Sound slot
slot_sound vs slot fit e =
    let b = back field_widths vs (replicate (47 - length (standing field_widths vs)) 0) fit in
    subst Sound e (record { whole = b.whole; zeros = λ k. ap (λ l. get_or l k 0) b.left ∙ get_or_zeros (47 - length (standing field_widths vs)) k })
  where
    get_or_zeros : (n k : ℕ) → get_or (replicate {A = ℕ} n 0) k 0 ≡ 0
    get_or_zeros zero k = refl
    get_or_zeros (suc n) zero = refl
    get_or_zeros (suc n) (suc k) = get_or_zeros n k

-- a field that stands as 0: no slot has it
pub dishonest : (i at left v : ℕ) (values slot vs : List ℕ) → i < 8 → Read i at left values slot → left % 2 ≡ 1 → v ≡ number_l 256 (take (get_or field_widths i 0) (drop at slot)) → v ≡ 0 → Fits field_widths vs → list_slot vs ≡ slot → ⊥
dishonest i at left v values slot vs within r odd read z fit e = true≢false (sym (slot_sound vs slot fit e).whole ∙ sym r.fair ∙ ap (λ ws. sound ws left bs) (drop_more field_widths i 0 within) ∙ ap (λ b. b && sound (drop (i + 1) field_widths) (left / 2) (after w left bs)) unfair)
  where
    w : ℕ
    w = get_or field_widths i 0

    bs : List ℕ
    bs = drop at slot

    on : eqb (left % 2) 0 ≡ false
    on = ap (λ k. eqb k 0) odd

    unfair : honest w left bs ≡ false
    unfair = rw on (ap not (ap (λ k. eqb k 0) (sym read) ∙ eq-eqb v 0 z))

-- after the last field
pub read_tail : (at left : ℕ) (values slot : List ℕ) → Read 8 at left values slot → tail field_widths (get_or slot 0 0) (drop 1 slot) ≡ drop at slot
read_tail at left values slot r = sym r.rest

zeros_pass : (l : List ℕ) → ((k : ℕ) → get_or l k 0 ≡ 0) → list_all (λ b. eqb b 0) l ≡ true
zeros_pass [] h = refl
zeros_pass (x ∷ l) h = λ j. eqb (h 0 j) 0 && zeros_pass l (λ k. h (suc k)) j

-- a byte past the fields that is not 0: no slot has it
pub untidy : (at left : ℕ) (values slot vs : List ℕ) → Read 8 at left values slot → false ≡ list_all (λ b. eqb b 0) (drop at slot) → Fits field_widths vs → list_slot vs ≡ slot → ⊥
untidy at left values slot vs r bad fit e =
    true≢false (sym (zeros_pass (drop at slot) (λ k. ap (λ l. get_or l k 0) (sym (read_tail at left values slot r)) ∙ (slot_sound vs slot fit e).zeros k)) ∙ sym bad)

all_zero : (l : List ℕ) → list_all (λ b. eqb b 0) l ≡ true → l ≡ replicate (length l) 0
all_zero [] h = refl
all_zero (x ∷ l) h =
    let parts = and_parts (eqb x 0) (list_all (λ b. eqb b 0) l) h in
    λ j. eqb-true x 0 parts.0 j ∷ all_zero l parts.1 j

each_rest : (l : List ℕ) → Each1 (λ b. b < 256) l → Each1 (λ b. b < 256) (drop 1 l)
each_rest [] h = tt
each_rest (x ∷ l) h = h.1

pub read_all : (at left : ℕ) (values slot : List ℕ) → length slot ≡ 48 → Each1 (λ b. b < 256) slot → Read 8 at left values slot → true ≡ list_all (λ b. eqb b 0) (drop at slot) → (list_slot values ≡ slot) × Fits field_widths values
read_all at left values slot long each r zeros = (whole, subst (Fits field_widths) (sym told) way.fit)
  where
    map : ℕ
    map = get_or slot 0 0

    bs : List ℕ
    bs = drop 1 slot

    told : values ≡ fields field_widths map bs
    told = sym (append-nil values ∙ refl) ∙ ap (λ l. l ++ []) (sym (take_all 8 values (omega (arith, r.eight)))) ∙ r.told

    long_rest : length bs ≡ 47
    long_rest = simp length-drop (omega (arith, long))

    way : Forth field_widths map bs
    way = forth field_widths map bs (sym r.fair) (Each1-get_or (λ b. b < 256) slot 0 0 (omega (arith, long)) each) (each_rest slot each) (omega (arith, long_rest))

    left_over : tail field_widths map bs ≡ replicate (length (drop at slot)) 0
    left_over =
        sym r.rest
        ∙ all_zero (drop at slot) (sym zeros)

    size : length (drop at slot) ≡ 47 - length (standing field_widths values)
    size =
        let joined = ap length way.bytes in
        let sum : length (standing field_widths (fields field_widths map bs)) + length (tail field_widths map bs) ≡ 47 = sym (length-append (standing field_widths (fields field_widths map bs)) (tail field_widths map bs)) ∙ joined ∙ long_rest in
        let tails : length (tail field_widths map bs) ≡ length (drop at slot) = ap length (sym r.rest) in
        let same : length (standing field_widths values) ≡ length (standing field_widths (fields field_widths map bs)) = ap (λ l. length (standing field_widths l)) told in
        omega (arith, sum, tails, same)

    whole : list_slot values ≡ slot
    whole =
        (λ j. (bit_map (told j) ∷ standing field_widths (told j)) ++ replicate (sym size j) 0)
        ∙ (λ j. (way.map j ∷ standing field_widths (fields field_widths map bs)) ++ sym left_over j)
        ∙ ap (λ l. map ∷ l) way.bytes
        ∙ sym (drop_more slot 0 0 (omega (arith, long)))
