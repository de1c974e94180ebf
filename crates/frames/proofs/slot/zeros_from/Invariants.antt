use Rattle.std.proofs.Common.{◌≡◌}
use Rattle.frames.proofs.Tail.{zeros_up_to}
use Rattle.frames.proofs.slot.zeros_from.Given as goal

abbrev pub invariant-loop-i : goal.invariant-loop-i
invariant-loop-i l = l.zeros ≡ zeros_up_to l.i l.at l.slot
