use Rattle.laws.proofs.Main.{elections}
use Rattle.laws.proofs.epochs_are_won_once.Goals as goal

pub returns : goal.returns
returns g c = elections g.M.Machine.initial (λ queue words. g.M.Machine.applied queue (g.M.Machine.unpacked words))
