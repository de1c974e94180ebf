-- What an epoch, a header and a vote are. All three pass as tuples of numbers, and are compared left to right.
use Rattle.std.specs.Prelude.{ℕ, Bool, ◌&&◌, ◌||◌, ◌==◌, nat_le, nat_lt}

-- a round and its leader
abbrev pub Epoch : Type 0
Epoch = ℕ × ℕ

-- a round, its leader and a count
abbrev pub Header : Type 0
Header = ℕ × ℕ × ℕ

-- an epoch and the header that its voter had accepted
abbrev pub Vote : Type 0
Vote = Epoch × Header

abbrev pub epoch_of : Header → Epoch
epoch_of h = (h.0, h.1)

abbrev pub header_in : Epoch → ℕ → Header
header_in e count = (e.0, e.1, count)

-- only the null epoch is led by no card
abbrev pub is_null_epoch : Epoch → Bool
is_null_epoch e = e.0 == 0 && e.1 == 0

abbrev pub is_card : ℕ → Bool
is_card n = nat_le 1 n && nat_le n 7

-- a round of 32 bits, led by a card 1 to 7
abbrev pub is_led_epoch : Epoch → Bool
is_led_epoch e = nat_lt e.0 4294967296 && is_card e.1

abbrev pub is_epoch : Epoch → Bool
is_epoch e = is_null_epoch e || is_led_epoch e

-- a count is 0 to 4294967294, and 0 under the null epoch
abbrev pub is_header : Header → Bool
is_header h = (is_null_epoch (epoch_of h) && h.2 == 0) || (is_led_epoch (epoch_of h) && nat_le h.2 4294967294)

abbrev pub is_vote : Vote → Bool
is_vote v = is_epoch v.0 && is_header v.1
