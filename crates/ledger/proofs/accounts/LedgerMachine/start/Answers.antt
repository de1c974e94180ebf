use Rattle.std.proofs.Common.{◌≡◌, true, pos, refl}
use Rattle.std.proofs.lemmas.List.Elements.{All-replicate}
use Rattle.ledger.specs.Ranges.{bearable}
use Rattle.ledger.proofs.accounts.LedgerMachine.start.Goals as goal

pub invariant_of-result : goal.invariant_of-result
invariant_of-result c = record { bounded = All-replicate (λ z. bearable z ≡ true) 32 (pos 0) refl }
