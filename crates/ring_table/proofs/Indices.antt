-- Different lanes have different rings.
use Rattle.std.proofs.Common.{◌≡◌, ℕ, ◌+◌, ◌-◌, ◌*◌, ◌/◌, ◌<◌, ◌≤◌, true, Ok, sym, ap, ◌∙◌, arith}
use Rattle.std.proofs.lemmas.Nat.{div-mul-add, mul-add-lt, mul-le}
use Rattle.std.proofs.lemmas.Bool.{eq-eqb, le-leb, ne_eqb}
use Rattle.std.proofs.lemmas.Bool.Decides.{nat_tests}
use Rattle.backplane.specs.Lanes.{is_lane, is_lane_number, same_lane}
use Rattle.ring_table.specs.Index.{lane_row, lane_index, Indexed}

-- what a lane that there is has
pub record Real (n f t l : ℕ) : Type 0 where
  pub from_some : 1 ≤ f
  pub from_most : f ≤ n
  pub to_some : 1 ≤ t
  pub to_most : t ≤ n
  pub number : is_lane_number l ≡ true

pub real : (n f t l : ℕ) → is_lane n f t l ≡ true → Real n f t l
real n f t l h = record {
  from_some = grind (arith, nat_tests);
  from_most = grind (arith, nat_tests);
  to_some = grind (arith, nat_tests);
  to_most = grind (arith, nat_tests);
  number = grind (arith, nat_tests);
}

row_below : (l : ℕ) → is_lane_number l ≡ true → lane_row l < 4
row_below l h = grind (arith, nat_tests)

row_apart : (l m : ℕ) → is_lane_number l ≡ true → is_lane_number m ≡ true → lane_row l ≡ lane_row m → l ≡ m
row_apart l m h k e = grind (arith, nat_tests)

pub same_place : (w a b x y : ℕ) → x < w → y < w → a * w + x ≡ b * w + y → (a ≡ b) × (x ≡ y)
same_place w a b x y small small' e =
    let rows : a ≡ b = sym (div-mul-add a w x small) ∙ ap (λ p. p / w) e ∙ div-mul-add b w y small' in
    (rows, omega (arith, ap (λ r. r * w) rows))

pub index_apart : (n f t l f' t' l' : ℕ) → is_lane n f t l ≡ true → is_lane n f' t' l' ≡ true → lane_index n f' t' l' ≡ lane_index n f t l → same_lane f t l f' t' l' ≡ true
index_apart n f t l f' t' l' h h' e =
    let r = real n f t l h in
    let r' = real n f' t' l' h' in
    let rows = same_place 4 ((f' - 1) * n + (t' - 1)) ((f - 1) * n + (t - 1)) (lane_row l') (lane_row l) (row_below l' r'.number) (row_below l r.number) e in
    let pairs = same_place n (f' - 1) (f - 1) (t' - 1) (t - 1) (omega arith) (omega arith) rows.0 in
    let ef : f' ≡ f = omega (arith, pairs.0) in
    let et : t' ≡ t = omega (arith, pairs.1) in
    rw (eq-eqb f' f ef, eq-eqb t' t et, eq-eqb l' l (row_apart l' l r'.number r.number rows.1))

-- a lane that there is, by its row
pub indexed : (n f t l row : ℕ) → n ≤ 7 → 1 ≤ f → f ≤ n → 1 ≤ t → t ≤ n → (f ≡ t → ⊥) → is_lane_number l ≡ true → row ≡ lane_row l → row < 4 → Indexed n f t l (Ok (((f - 1) * n + (t - 1)) * 4 + row))
indexed n f t l row few a b c d e known is small =
    let place = mul-add-lt (f - 1) n (t - 1) n (omega arith) (omega arith) in
    let square = mul-le n n 7 7 few few in (
      rw (le-leb 1 f a, le-leb f n b, le-leb 1 t c, le-leb t n d, ne_eqb f t e, known),
      rw is,
      omega (arith, place),
      omega (arith, place, square),
    )
