use Rattle.std.proofs.Common.{◌≡◌, take}
use Rattle.machines.specs.Lone.{carried}
use Rattle.machines.proofs.runs.lone.Given as goal

-- the items so far lead to where the machine stands
abbrev pub invariant-loop-item : goal.invariant-loop-item
invariant-loop-item g l =
    let m = g.M.Machine in
    m.state l.machine ≡ carried m.applied m.unpacked m.initial (take l.item-index l.items)
