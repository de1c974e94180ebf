-- The ranges of a posting and of a balance, ends allowed. `negsuc n` is −(n + 1).
use Rattle.std.specs.Prelude.{ℕ, Bool, ◌&&◌, ℤ, pos, negsuc, int_le, nat_lt}

-- a carrier from 0 to 31, an amount from −2147483648 to 2147483647
abbrev pub postable : ℕ → ℤ → Bool
postable carrier cents = nat_lt carrier 32 && (int_le (negsuc 2147483647) cents && int_le cents (pos 2147483647))

-- a balance from −9000000000000 to 9000000000000
abbrev pub bearable : ℤ → Bool
bearable cents = int_le (negsuc 8999999999999) cents && int_le cents (pos 9000000000000)
