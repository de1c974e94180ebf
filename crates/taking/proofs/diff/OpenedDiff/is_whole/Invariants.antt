use Rattle.std.proofs.Common.{◌≡◌, ◌+◌, ◌-◌, drop}
use Rattle.taking.specs.Openings.{lane_of}
use Rattle.taking.specs.Wholes.{whole_behind}
use Rattle.taking.proofs.diff.OpenedDiff.is_whole.Given as goal

abbrev pub invariant-loop-index : goal.invariant-loop-index
invariant-loop-index g l =
    let lane = lane_of l.port in
    whole_behind l.low l.high (l.self.entries - l.index) (drop (l.index + 1) lane) ≡ whole_behind l.self.base l.high l.self.entries (drop 1 lane)
