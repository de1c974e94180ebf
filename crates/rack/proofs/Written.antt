-- A rack with one seat and the tally written, and all else as it was.
use Rattle.std.specs.Prelude.{◌≡◌, ℕ, ◌-◌, slice_set}
use Rattle.rack.specs.declared.seat.Seat.{Seat}
use Rattle.rack.specs.declared.state.Rack.{Rack}

pub record Written (r r' : Rack) (i : ℕ) (seat : Seat) (total : ℕ) : Type 0 where
  pub seats : r'.seats ≡ slice_set r.seats (i - 1) seat
  pub size : r'.size ≡ r.size
  pub places : r'.places ≡ r.places
  pub tally : r'.tally ≡ total
