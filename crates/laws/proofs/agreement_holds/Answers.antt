use Rattle.laws.proofs.Main.{agreement}
use Rattle.laws.proofs.agreement_holds.Goals as goal

pub returns : goal.returns
returns g c = agreement g.M.Machine.initial (λ queue words. g.M.Machine.applied queue (g.M.Machine.unpacked words))
