use Rattle.logs.specs.Log.{is_up_to}
use Rattle.logs.proofs.Cuts.{Copied}
use Rattle.logs.proofs.reads.read_up_to.Given as goal

abbrev pub invariant-loop-entry : goal.invariant-loop-entry
invariant-loop-entry l = Copied (is_up_to l.base) l.log l.entry-index l.initial.out l.out l.copied
