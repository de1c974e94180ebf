-- What a word of text says as a decimal number.
use Rattle.std.specs.Prelude.{ℕ, ◌+◌, ◌-◌, ◌*◌, min, Bool, cond, ◌&&◌, List, length, drop, fold, ℤ, pos, neg_ℤ, Some, None, Option, ◌==◌, nat_le, slice_index}
use Rattle.std.specs.List.{list_all}
use Rattle.std.specs.Option.{option_map}

abbrev pub is_digit : ℕ → Bool
is_digit b = nat_le 48 b && nat_le b 57

-- the number that digits write after v
abbrev pub value_after : ℕ → List ℕ → ℕ
value_after = fold (λ v b. 10 * v + (b - 48))

-- one digit or more; every number past 64 bits counts as the first of them
abbrev pub magnitude_in : List ℕ → Option ℕ
magnitude_in bs = cond (length bs == 0) None (cond (list_all is_digit bs) (Some (min 18446744073709551616 (value_after 0 bs))) None)

-- a minus sign may stand in front
abbrev pub number_in : List ℕ → Option ℤ
number_in bs = cond (slice_index bs 0 == 45) (option_map (λ n. neg_ℤ (pos n)) (magnitude_in (drop 1 bs))) (option_map pos (magnitude_in bs))
