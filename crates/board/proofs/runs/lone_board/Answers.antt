use Rattle.board.proofs.Held.{held_through_runs}
use Rattle.board.proofs.runs.lone_board.Goals as goal

pub returns-clause-law : goal.returns-clause-law
returns-clause-law c = held_through_runs
