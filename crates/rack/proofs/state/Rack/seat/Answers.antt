use Rattle.std.proofs.Common.{◌-◌, refl}
use Rattle.rack.proofs.Views.{read_fits}
use Rattle.rack.proofs.state.Rack.seat.Goals as goal

pub returns-clause-fits : goal.returns-clause-fits
returns-clause-fits c = read_fits c.args.self.now (c.args.card - 1) _ refl
