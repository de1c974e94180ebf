use Rattle.std.proofs.Common.{◌≡◌, true, sym}
use Rattle.std.proofs.lemmas.List.Elements.{All-set}
use Rattle.ledger.specs.Ranges.{bearable}
use Rattle.ledger.proofs.Settled.{exact_or_none}
use Rattle.ledger.proofs.accounts.LedgerMachine.apply.Goals as goal

pub invariant_of-self : goal.invariant_of-self
invariant_of-self c =
    let balances = c.args.self.now.balances in
    record { bounded = All-set (λ z. bearable z ≡ true) balances c.args.payload.carrier _ (sym c.if-within_bounds.ensures) c.args.self.now.bounded }

pub returns-then-within_bounds-clause-law : goal.returns-then-within_bounds-clause-law
returns-then-within_bounds-clause-law c = exact_or_none

pub returns-else-within_bounds-clause-law : goal.returns-else-within_bounds-clause-law
returns-else-within_bounds-clause-law c = exact_or_none
