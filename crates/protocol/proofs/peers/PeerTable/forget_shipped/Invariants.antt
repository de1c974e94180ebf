use Rattle.std.proofs.Common.{◌≡◌, ◌-◌}
use Rattle.protocol.specs.Rows.{forget_up_to}
use Rattle.protocol.proofs.peers.PeerTable.forget_shipped.Given as goal

abbrev pub invariant-loop-peer : goal.invariant-loop-peer
invariant-loop-peer l = l.self ≡ forget_up_to (l.peer - 1) l.initial.self
