-- A booking is made exactly from fields within the ranges.
use Rattle.std.specs.Prelude.{◌≡◌, ℕ, true, false, Some, None}
use Rattle.machines.proofs.Guarded.{whenever_true, whenever_false}
use Rattle.board.specs.Ranges.{bookable}
use Rattle.board.specs.Bookings.{booking}
use Rattle.board.specs.declared.bookings.Act.{Act}
use Rattle.board.specs.declared.bookings.Booking.{Booking}

abbrev pub entered : (l : ℕ) (a : Act) (c : ℕ) → bookable l c ≡ true → Booking
entered l a c e = record { load = l; act = a; carrier = c; inside = e }

pub booking_is : (l : ℕ) (a : Act) (c : ℕ) (e : bookable l c ≡ true) → booking (l, a, c) ≡ Some (entered l a c e)
booking_is l a c e = whenever_true (bookable l c) (λ h. Some (entered l a c h)) None e

pub booking_none : (l : ℕ) (a : Act) (c : ℕ) → bookable l c ≡ false → booking (l, a, c) ≡ None
booking_none l a c h = whenever_false (bookable l c) (λ e. Some (entered l a c e)) None h
