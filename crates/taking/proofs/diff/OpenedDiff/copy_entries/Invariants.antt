use Rattle.std.proofs.Common.{◌≡◌, ◌+◌, ◌++◌, map, take, drop}
use Rattle.frames.specs.Carried.{entry_of}
use Rattle.logs.specs.Places.{SamePlaces, logged}
use Rattle.taking.specs.Openings.{lane_of}
use Rattle.taking.proofs.diff.OpenedDiff.copy_entries.Given as goal

abbrev pub invariant-loop-index : goal.invariant-loop-index
invariant-loop-index g l =
    SamePlaces l.initial.log l.log
    × (l.log.used ≡ l.initial.log.used + l.index)
    × (logged l.log ≡ logged l.initial.log ++ map entry_of (take l.index (drop 1 (lane_of l.port))))
