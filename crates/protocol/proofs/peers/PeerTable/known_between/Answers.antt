use Rattle.std.proofs.Common.{◌≡◌, ◌&&◌, true, false, sym, ap, arith, rules}
use Rattle.protocol.specs.Rows.{known_row}
use Rattle.protocol.proofs.RowCount.{counted_none, counted_next, counted_all}
use Rattle.protocol.proofs.peers.PeerTable.known_between.Goals as goal
use Rattle.protocol.proofs.peers.PeerTable.known_between.Goals.{then-up_to+then-up_to-2, else-up_to, else-up_to-via-then-up_to+else-up_to-2, else-up_to-via-else-up_to}

pub loop-before-init : goal.loop-before-init
loop-before-init g c = counted_none g.T.Mark.up_to c.args.low c.args.high (known_row g.T.Copied.copied c.args.card c.args.own c.args.self.now) c.args.cards

pub overflow_add-count : goal.overflow_add-count
overflow_add-count g c =
    let few = c.loop-before.invariant.few in
    search rules

pub loop-before-preserved : goal.loop-before-preserved
loop-before-preserved g c =
    let up_to = g.T.Mark.up_to in
    let row = known_row g.T.Copied.copied c.args.card c.args.own c.args.self.now in
    let next = counted_next up_to c.args.low c.args.high row c.args.cards c.loop-before.before c.loop-before.count c.if-up_to.count c.known_row-row.result in
    elim c.if-up_to.branch [
      | then-up_to+then-up_to-2 w ↦ next true c.loop-before-test.true c.loop-before.invariant c.known_row-row.ensures (λ i. (sym w.if-up_to.ensures i) && (sym w.if-up_to-2.ensures i)) w.count-is
      | else-up_to w ↦
          let outside : (up_to c.args.low c.known_row-row.result && up_to c.known_row-row.result c.args.high) ≡ false =
          elim w.else-up_to.branch [
            | else-up_to-via-then-up_to+else-up_to-2 w' ↦ λ i. (sym w'.if-up_to.ensures i) && (sym w'.if-up_to-2.ensures i)
            | else-up_to-via-else-up_to w' ↦ ap (λ b. b && up_to c.known_row-row.result c.args.high) (sym w'.if-up_to.ensures)
          ] in
          next false c.loop-before-test.true c.loop-before.invariant c.known_row-row.ensures outside (omega (arith, w.count-is))
    ]

pub returns : goal.returns
returns g c =
    let end : c.loop-before.before ≡ c.args.cards = omega arith in
    counted_all g.T.Mark.up_to c.args.low c.args.high (known_row g.T.Copied.copied c.args.card c.args.own c.args.self.now) c.args.cards c.loop-before.before c.loop-before.count end c.loop-before.invariant
