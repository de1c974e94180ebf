-- A line's number as 64 bits hold it, without or with a sign, and as a count from 1 to 65535; none where it lies outside.
use Rattle.std.specs.Prelude.{ℕ, cond, ◌&&◌, ℤ, pos, negsuc, Some, None, Option, int_le, unsigned_abs}

abbrev pub unsigned_of : ℤ → Option ℕ
unsigned_of n = cond (int_le (pos 0) n && int_le n (pos 18446744073709551615)) (Some (unsigned_abs n)) None

abbrev pub signed_of : ℤ → Option ℤ
signed_of n = cond (int_le (negsuc 9223372036854775807) n && int_le n (pos 9223372036854775807)) (Some n) None

abbrev pub repeats_of : ℤ → Option ℕ
repeats_of n = cond (int_le (pos 1) n && int_le n (pos 65535)) (Some (unsigned_abs n)) None
