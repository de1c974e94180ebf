-- What is done with a message or diff: too low first, then out of turn, then no room.
use Rattle.std.specs.Prelude.{Bool, cond, Ok, Err, Result}
use Rattle.frames.specs.Fields.{FrameFields}
use Rattle.protocol.specs.Taking.{too_low, in_turn}
use Rattle.protocol.specs.declared.card.Card.{Card}
use Rattle.cards.specs.declared.fault.CardFault.{CardFault}
use Rattle.cards.specs.declared.fault.CardFault.TheVariants.{OutOfTurn, LogFull}
use Rattle.taking.specs.declared.verdict.Verdict.{Verdict}
use Rattle.taking.specs.declared.verdict.Verdict.TheVariants.{Pass, Enter}

abbrev pub unless_full : Bool → Result Verdict CardFault
unless_full full = cond full (Err LogFull) (Ok Enter)

abbrev pub verdict_on : Card → FrameFields → Bool → Result Verdict CardFault
verdict_on c f full = cond (too_low c f) (Ok Pass) (cond (in_turn c f) (unless_full full) (Err OutOfTurn))
