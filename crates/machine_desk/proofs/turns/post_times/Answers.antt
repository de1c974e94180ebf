use Rattle.std.proofs.Common.{◌≡◌, suc, ◌+◌, ◌-◌, sym, ap, ◌∙◌, arith}
use Rattle.machine_desk.specs.Turns.{repeated}
use Rattle.machine_desk.proofs.turns.post_times.Goals as goal

pub loop-turn-preserved : goal.loop-turn-preserved
loop-turn-preserved c =
    let left = c.args.times - (c.loop-turn._turn + 1) in
    let one : c.args.times - c.loop-turn._turn ≡ suc left = omega arith in
    ap (repeated left c.args.posting) c.apply.ensures.after
    ∙ sym (ap (λ n. repeated n c.args.posting c.loop-turn.ledger.balances) one)
    ∙ c.loop-turn.invariant
