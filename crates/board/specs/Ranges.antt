-- The ranges of a booking, ends allowed: a load from 0 to 63, a carrier from 1 to 65535.
use Rattle.std.specs.Prelude.{ℕ, Bool, ◌&&◌, nat_lt}

abbrev pub bookable : ℕ → ℕ → Bool
bookable load carrier = nat_lt load 64 && (nat_lt 0 carrier && nat_lt carrier 65536)
