use Rattle.laws.proofs.Main.{no_lost_delivery}
use Rattle.laws.proofs.no_delivery_is_lost.Goals as goal

pub returns : goal.returns
returns g c = no_lost_delivery g.M.Machine.initial (λ queue words. g.M.Machine.applied queue (g.M.Machine.unpacked words))
