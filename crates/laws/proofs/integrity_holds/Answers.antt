use Rattle.laws.proofs.Main.{integrity}
use Rattle.laws.proofs.integrity_holds.Goals as goal

pub returns : goal.returns
returns g c = integrity g.M.Machine.initial (λ queue words. g.M.Machine.applied queue (g.M.Machine.unpacked words))
