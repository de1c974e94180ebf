use Rattle.std.proofs.Common.{sym, ap}
use Rattle.refusals.specs.declared.Refusal.TheVariants.{OutOfRange}
use Rattle.std.specs.Option.{ok_or}
use Rattle.board.specs.Made.{booking_is}
use Rattle.board.proofs.bookings.Booking.new.Goals as goal

pub returns : goal.returns
returns c = sym (ap (λ o. ok_or o OutOfRange) (booking_is c.args.load c.args.act c.args.carrier _))
