use Rattle.frames.proofs.Parsing.{Read}
use Rattle.frames.proofs.slot.read_fields.Given as goal

abbrev pub invariant-loop-i : goal.invariant-loop-i
invariant-loop-i l = Read l.i l.at l.left l.values l.slot
