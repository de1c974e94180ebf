-- The refusal that each fault of a card leads to, and a card's answer as the caller is told it.
use Rattle.std.specs.Prelude.{Ok, Err, Result}
use Rattle.refusals.specs.declared.Refusal.{Refusal}
use Rattle.refusals.specs.declared.Refusal.TheVariants.{Stopped, WrongRole, NothingDue, NotElected, Malformed, OutOfTurn, LogFull, UsedUp}
use Rattle.backplane.specs.Faults.{fault_refusal}
use Rattle.protocol.specs.Rack.{Reply}
use Rattle.protocol.specs.declared.answer.Answer.{Answer}
use Rattle.cards.specs.declared.fault.CardFault.{CardFault}
use Rattle.cards.specs.declared.fault.CardFault.TheVariants as card

abbrev pub card_refusal : CardFault → Refusal
card_refusal (card.Lane fault) = fault_refusal fault
card_refusal card.Stopped = Stopped
card_refusal card.WrongRole = WrongRole
card_refusal card.NothingDue = NothingDue
card_refusal card.NotElected = NotElected
card_refusal card.Malformed = Malformed
card_refusal card.OutOfTurn = OutOfTurn
card_refusal card.LogFull = LogFull
card_refusal card.UsedUp = UsedUp

abbrev pub replied : {X : Type 0} → (X → Answer) → Result X CardFault → Reply
replied answer (Ok x) = Ok (answer x)
replied answer (Err fault) = Err (card_refusal fault)
