-- The board's state: the holder of each load, 0 where it is open.
use Rattle.std.specs.Prelude.{ℕ, cond, List, replicate, Some, None, Option, ◌==◌, nat_lt, slice_index, slice_set}
use Rattle.board.specs.declared.bookings.Act.{Act}
use Rattle.board.specs.declared.bookings.Act.TheVariants.{Book, Release}
use Rattle.board.specs.Bookings.{Payload}

abbrev pub held_by : ℕ → Option ℕ
held_by holder = cond (holder == 0) None (Some holder)

abbrev pub holder_of : List ℕ → ℕ → Option ℕ
holder_of holders load = held_by (slice_index holders load)

-- there are 64 loads
abbrev pub reported : List ℕ → ℕ → Option ℕ
reported holders load = cond (nat_lt load 64) (holder_of holders load) None

abbrev pub all_open : List ℕ
all_open = replicate 64 0

-- booking an open load gives it to the carrier; release by its holder opens it
abbrev pub changed : Act → ℕ → ℕ → List ℕ → List ℕ
changed Book load carrier holders = cond (slice_index holders load == 0) (slice_set holders load carrier) holders
changed Release load carrier holders = cond (slice_index holders load == carrier) (slice_set holders load 0) holders

abbrev pub acted : ℕ → Payload → List ℕ → List ℕ
acted queue None holders = holders
acted queue (Some b) holders = changed b.act b.load b.carrier holders
