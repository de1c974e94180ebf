use Rattle.laws.proofs.Main.{card_rules}
use Rattle.laws.proofs.card_rules_hold.Goals as goal

pub returns : goal.returns
returns g c = card_rules g.M.Machine.initial (λ queue words. g.M.Machine.applied queue (g.M.Machine.unpacked words))
