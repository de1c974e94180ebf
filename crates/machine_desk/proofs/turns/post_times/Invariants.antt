use Rattle.std.proofs.Common.{◌≡◌, ◌-◌}
use Rattle.machine_desk.specs.Turns.{repeated}
use Rattle.machine_desk.proofs.turns.post_times.Given as goal

-- the turns that are left lead to where all of them lead
abbrev pub invariant-loop-turn : goal.invariant-loop-turn
invariant-loop-turn l = repeated (l.times - l._turn) l.posting l.ledger.balances ≡ repeated l.times l.posting l.initial.ledger.balances
