-- One call: its answer or refusal, and the state after it.
use Rattle.std.specs.Prelude.{ℕ}
use Rattle.frames.specs.Fields.{Words}
use Rattle.protocol.specs.Rack.{Sizes, State, Reply}
use Rattle.protocol.specs.Voting.{timeout, elect, win}
use Rattle.protocol.specs.Booking.{submit, ship}
use Rattle.protocol.specs.Taking.{take_call}
use Rattle.protocol.specs.Exchange.{push, look, stop}
use Rattle.protocol.specs.Committing.{commit}
use Rattle.protocol.specs.declared.call.Call.{Call}
use Rattle.protocol.specs.declared.call.Call.TheVariants.{Timeout, Elect, Win, Submit, Ship, Take, Push, Look, Commit, Stop}

module _ {S : Type 0} (apply : ℕ → Words → S → S) (z : Sizes) where
  abbrev pub step : Call → State S → Reply × State S
  step (Timeout i) s = timeout z i s
  step (Elect i) s = elect z i s
  step (Win i) s = win z i s
  step (Submit i queue payload) s = submit z i queue payload s
  step (Ship i j) s = ship z i j s
  step (Take i j) s = take_call z i j s
  step (Push i j kind) s = push z i j kind s
  step (Look i j kind) s = look z i j kind s
  step (Commit i) s = commit apply z i s
  step (Stop i) s = stop z i s
