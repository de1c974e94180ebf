-- A card's fault as the rack's caller is told it.
use Rattle.std.proofs.Common.{◌≡◌, IsErrAnd, Err, Result, ap, ◌∙◌}
use Rattle.std.proofs.lemmas.Result.{err_from_is_err_and}
use Rattle.protocol.specs.declared.answer.Answer.{Answer}
use Rattle.cards.specs.Faults.{card_refusal}
use Rattle.cards.specs.declared.fault.CardFault.{CardFault}
use Rattle.rack.specs.Faults.{rack_refusal, told}
use Rattle.rack.specs.declared.fault.RackFault.{RackFault}
use Rattle.rack.specs.declared.fault.RackFault.TheVariants as fault

-- a card's fault, as the caller of the rack is told it
pub told_card : {X : Type 0} (answer : X → Answer) (r : Result X RackFault) (f : CardFault) → IsErrAnd r (λ y. y ≡ fault.Card f) → told answer r ≡ Err (card_refusal f)
told_card answer r f e = let p = err_from_is_err_and r e in ap (told answer) p.1 ∙ ap (λ y. Err (rack_refusal y)) p.2
