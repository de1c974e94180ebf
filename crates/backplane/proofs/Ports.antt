-- A lane that there is, after two changes.
use Rattle.std.proofs.Common.{◌∙◌}
use Rattle.backplane.specs.declared.lanes.Backplane.{Ghosts}
use Rattle.backplane.specs.declared.port.Port.{Port}
use Rattle.backplane.specs.Ports.{SamePort}

pub same_then : {B : Type 0} {b : Ghosts B} {p q r : Port B b} → SamePort p q → SamePort q r → SamePort p r
same_then first second = record {
  name = second.name ∙ first.name;
  lane = second.lane ∙ first.lane;
  count = second.count ∙ first.count;
  room = second.room ∙ first.room;
}
