use Rattle.std.proofs.Common.{◌≡◌, ◌+◌, ◌≤◌, map, length}
use Rattle.frames.specs.Carried.{entry_frame}
use Rattle.backplane.specs.Ports.{SamePort, lanes_of, room_of, waits}
use Rattle.protocol.specs.Booking.{inside}
use Rattle.cards.specs.LaneViews.{lane_fields}
use Rattle.logs.proofs.Logs.{left_by}
use Rattle.shipping.specs.Lanes.{lanes_with}
use Rattle.shipping.proofs.diff.send_entries.Given as goal

abbrev pub invariant-loop-entry : goal.invariant-loop-entry
invariant-loop-entry g l =
    let left = left_by (inside l.span.low l.span.high) l.entry-index l.log in
    let all = left_by (inside l.span.low l.span.high) 0 l.log in
    let now = l.port.lane in
    let first = l.initial.port.lane in
    SamePort l.initial.port l.port
    × (lanes_with now.from now.to now.number (map (entry_frame 3) left) (lane_fields (lanes_of l.port)) ≡ lanes_with first.from first.to first.number (map (entry_frame 3) all) (lane_fields (lanes_of l.initial.port)))
    × (length (waits l.port) + length left ≤ room_of l.port)
