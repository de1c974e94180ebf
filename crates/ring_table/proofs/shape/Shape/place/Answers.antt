use Rattle.std.proofs.Common.{◌≡◌, ◌≤◌, ◌<◌, true, rules}
use Rattle.backplane.specs.Lanes.{is_lane_number}
use Rattle.ring_table.specs.Index.{lane_row}
use Rattle.ring_table.proofs.Indices.{indexed}
use Rattle.ring_table.proofs.shape.Shape.place.Goals as goal
use Rattle.ring_table.proofs.shape.Shape.place.Goals.{in-0, in-4-to-6}

pub returns : goal.returns
returns c =
    let from : (1 ≤ c.args.lane.from) × (c.args.lane.from ≤ c.args.self.cards) = search rules in
    let to : (1 ≤ c.args.lane.to) × (c.args.lane.to ≤ c.args.self.cards) = search rules in
    let known : is_lane_number c.args.lane.number ≡ true = search rules in
    let row : c.match-lane.row ≡ lane_row c.args.lane.number = search rules in
    let small : c.match-lane.row < 4 = search rules in
    indexed c.args.self.cards c.args.lane.from c.args.lane.to c.args.lane.number c.match-lane.row c.args.self.few from.0 from.1 to.0 to.1 c.if-lane.false known row small
