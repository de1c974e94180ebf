use Rattle.std.proofs.Common.{ap, ◌∙◌}
use Rattle.backplane.specs.Quiet.{all_quiet}
use Rattle.backplane.proofs.Silence.{quiet_means}
use Rattle.backplane.proofs.quiet.is_quiet.Goals as goal

pub returns : goal.returns
returns g c =
    let s = c.args.backplane.now in
    quiet_means (g.B.Backplane.count s) (g.B.Backplane.lanes s) (g.B.Backplane.nowhere s) c.all_quiet.result (c.all_quiet.ensures ∙ ap (all_quiet (g.B.Backplane.lanes s)) c.cards.ensures)
