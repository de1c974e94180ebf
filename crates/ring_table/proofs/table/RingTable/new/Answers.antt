use Rattle.std.proofs.Common.{◌<◌, ◌≤◌, sym, refl, subst, arith}
use Rattle.ring_table.specs.declared.ring.Ring.{Ring}
use Rattle.ring_table.proofs.Calls.{replicate_empty, slots_empty}
use Rattle.ring_table.proofs.table.RingTable.new.Goals as goal

pub invariant_of-result : goal.invariant_of-result
invariant_of-result c = record {
  long = refl;
  headed = λ i. subst (λ (r : Ring). r.head < c.args.shape.room) (sym (replicate_empty 196 i)) (omega arith);
  held = λ i. subst (λ (r : Ring). r.count ≤ c.args.shape.room) (sym (replicate_empty 196 i)) (omega arith);
}

pub returns-clause-slots : goal.returns-clause-slots
returns-clause-slots c = slots_empty c.args.shape.cards c.args.shape.room _ (replicate_empty 196)
