use Rattle.laws.proofs.Main.{counts}
use Rattle.laws.proofs.tally_counts_submits.Goals as goal

pub returns : goal.returns
returns g c = counts g.M.Machine.initial (λ queue words. g.M.Machine.applied queue (g.M.Machine.unpacked words))
