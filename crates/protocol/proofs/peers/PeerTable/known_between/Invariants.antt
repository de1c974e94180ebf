use Rattle.protocol.specs.Rows.{known_row}
use Rattle.protocol.proofs.RowCount.{Counted}
use Rattle.protocol.proofs.peers.PeerTable.known_between.Given as goal

abbrev pub invariant-loop-before : goal.invariant-loop-before
invariant-loop-before g l = Counted g.T.Mark.up_to l.low l.high (known_row g.T.Copied.copied l.card l.own l.self) l.cards l.before l.count
