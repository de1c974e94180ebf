use Rattle.std.proofs.Common.{◌≡◌, take}
use Rattle.std.specs.List.{AllByRecursion}
use Rattle.rack.proofs.opening.restart.Given as goal

abbrev pub invariant-loop-machine : goal.invariant-loop-machine
invariant-loop-machine g l = AllByRecursion (λ m. g.M.Machine.state m ≡ g.M.Machine.initial) (take l.machine-index l.machines)
