use Rattle.frames.proofs.Numbers.{Words}
use Rattle.frames.proofs.frame.Frame.from_numbers.Given as goal

abbrev pub invariant-loop-k : goal.invariant-loop-k
invariant-loop-k l = Words l.fn.numbers l.fields l.k
