-- The digits of hexadecimal text.
use Rattle.std.specs.Prelude.{ℕ, ◌+◌, ◌-◌, cond, ◌&&◌, Some, None, Option, nat_le, nat_lt}

abbrev pub digit_value : ℕ → Option ℕ
digit_value t = cond (nat_le 48 t && nat_le t 57) (Some (t - 48)) (cond (nat_le 65 t && nat_le t 70) (Some (t - 55)) (cond (nat_le 97 t && nat_le t 102) (Some (t - 87)) None))

abbrev pub digit_text : ℕ → ℕ
digit_text v = cond (nat_lt v 10) (48 + v) (55 + v)
