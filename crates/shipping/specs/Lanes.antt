-- One lane that frames enter.
use Rattle.std.specs.Prelude.{ℕ, List, ◌++◌}
use Rattle.backplane.specs.Lanes.{LanesOf}
use Rattle.protocol.specs.Rack.{at_lane}

-- the lanes once some more frames wait in one of them
abbrev pub lanes_with : {A : Type 0} → ℕ → ℕ → ℕ → List A → LanesOf A → LanesOf A
lanes_with f t l due lanes = at_lane f t l (lanes f t l ++ due) lanes
