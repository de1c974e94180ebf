-- The refusal that each fault leads to, and a call's answer as the caller is told it.
use Rattle.std.specs.Prelude.{Ok, Err, Result}
use Rattle.refusals.specs.declared.Refusal.{Refusal}
use Rattle.refusals.specs.declared.Refusal.TheVariants.{NoSuchCard, WrongSize, OutOfRange}
use Rattle.protocol.specs.Rack.{Reply}
use Rattle.protocol.specs.declared.answer.Answer.{Answer}
use Rattle.cards.specs.Faults.{card_refusal}
use Rattle.rack.specs.declared.fault.RackFault.{RackFault}
use Rattle.rack.specs.declared.fault.RackFault.TheVariants as rack

abbrev pub rack_refusal : RackFault → Refusal
rack_refusal (rack.Card fault) = card_refusal fault
rack_refusal rack.NoSuchCard = NoSuchCard
rack_refusal rack.WrongSize = WrongSize
rack_refusal rack.OutOfRange = OutOfRange

abbrev pub told : {X : Type 0} → (X → Answer) → Result X RackFault → Reply
told answer (Ok x) = Ok (answer x)
told answer (Err fault) = Err (rack_refusal fault)
