use Rattle.ledger.proofs.Settled.{runs_within}
use Rattle.ledger.proofs.runs.lone_ledger.Goals as goal

pub returns-clause-law : goal.returns-clause-law
returns-clause-law c = runs_within
