use Rattle.std.proofs.Common.{drop}
use Rattle.frames.specs.Slot.{field_list}
use Rattle.frames.specs.Views.{frame_fields}
use Rattle.frames.proofs.Filling.{Filled}
use Rattle.frames.proofs.slot.fill.Given as goal

abbrev pub invariant-loop-i : goal.invariant-loop-i
invariant-loop-i l = Filled l.i l.at l.map l.bit (field_list (frame_fields l.fn.frame)) l.out (drop 48 l.initial.out)
