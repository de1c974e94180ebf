-- Making, packing and unpacking a payload of the board.
use Rattle.std.specs.Prelude.{ℕ, cond, Some, None, Option, ◌==◌}
use Rattle.std.specs.Option.{option_map}
use Rattle.machines.specs.Guard.{whenever}
use Rattle.board.specs.Ranges.{bookable}
use Rattle.board.specs.declared.bookings.Act.{Act}
use Rattle.board.specs.declared.bookings.Act.TheVariants.{Book, Release}
use Rattle.board.specs.declared.bookings.Booking.{Booking}

abbrev pub act_number : Act → ℕ
act_number Book = 1
act_number Release = 2

abbrev pub act_of : ℕ → Option Act
act_of n = cond (n == 1) (Some Book) (cond (n == 2) (Some Release) None)

abbrev pub booking : ℕ × Act × ℕ → Option Booking
booking d = whenever (bookable d.0 d.2) (λ e. Some (record { load = d.0; act = d.1; carrier = d.2; inside = e })) None

-- a payload asks for a booking, or for nothing
abbrev pub Payload : Type 0
Payload = Option Booking

abbrev pub drafted : ℕ × Act × ℕ → Option Payload
drafted d = option_map Some (booking d)

abbrev pub blank_payload : Payload
blank_payload = None

-- load, act, carrier; all 0 for the blank payload
abbrev pub packed : Payload → ℕ × ℕ × ℕ
packed None = (0, 0, 0)
packed (Some b) = (b.load, act_number b.act, b.carrier)

abbrev pub asked : Option Act → ℕ → ℕ → Payload
asked None load carrier = None
asked (Some act) load carrier = booking (load, act, carrier)

abbrev pub unpacked : ℕ × ℕ × ℕ → Payload
unpacked w = asked (act_of w.1) w.0 w.2
