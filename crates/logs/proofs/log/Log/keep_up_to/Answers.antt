use Rattle.std.proofs.Common.{◌≤◌, length, set, sym, ap, ◌∙◌, arith, rules}
use Rattle.logs.specs.Log.{is_up_to}
use Rattle.logs.proofs.Cuts.{copied_behind, copied_ahead, copied_in, copied_out, cut_count, cut_log}
use Rattle.logs.proofs.log.Log.keep_up_to.Goals as goal
use Rattle.logs.proofs.log.Log.keep_up_to.Goals.{then-is_up_to, else-is_up_to}

pub bounds-self-kept : goal.bounds-self-kept
bounds-self-kept c =
    let xs = c.args.self.now.places.now in
    omega (arith, copied_behind (is_up_to c.args.base) xs c.loop-i.i xs c.loop-i.self.places.now c.loop-i.kept c.loop-i.invariant.2)

pub loop-i-preserved : goal.loop-i-preserved
loop-i-preserved c =
    let xs = c.args.self.now.places.now in
    let inv = c.loop-i.invariant.2 in
    let behind : c.loop-i.kept ≤ c.loop-i.i = copied_behind (is_up_to c.args.base) xs c.loop-i.i xs c.loop-i.self.places.now c.loop-i.kept inv in
    let read = copied_ahead (is_up_to c.args.base) xs c.loop-i.i xs c.loop-i.self.places.now c.loop-i.kept inv c.index-self-i.result c.index-self-i.is in
    elim c.if-is_up_to.branch [
      | then-is_up_to w ↦ (ap (λ s. s.places.ghost_name) w.self-is ∙ c.loop-i.invariant.0, ap (λ s. length s.places.now) w.self-is ∙ search rules, copied_in (is_up_to c.args.base) xs c.loop-i.i xs c.loop-i.self.places.now c.loop-i.kept inv c.index-self-i.result (omega arith) read c.if-is_up_to.self.places.now c.if-is_up_to.kept (w.if-is_up_to.ensures ∙ ap (is_up_to c.args.base) (sym c.index-self-i.is)) (omega arith) (ap (λ s. s.places.now) w.self-is ∙ ap (λ e. set c.loop-i.self.places.now c.loop-i.kept e) (sym c.index-self-i.is)) w.kept-is)
      | else-is_up_to w ↦ (ap (λ s. s.places.ghost_name) w.self-is ∙ c.loop-i.invariant.0, ap (λ s. length s.places.now) w.self-is ∙ c.loop-i.invariant.1, copied_out (is_up_to c.args.base) xs c.loop-i.i xs c.loop-i.self.places.now c.loop-i.kept inv c.index-self-i.result (omega arith) read c.if-is_up_to.self.places.now c.if-is_up_to.kept (w.if-is_up_to.ensures ∙ ap (is_up_to c.args.base) (sym c.index-self-i.is)) (ap (λ s. s.places.now) w.self-is) w.kept-is)
    ]

pub returns-clause-count : goal.returns-clause-count
returns-clause-count c =
    cut_count c.args.base c.args.self.now.places.now c.args.self.now.used c.loop-i.i c.loop-i.self.places.now c.loop-i.kept (omega (arith, c.loop-i-test.false)) c.loop-i.invariant.2

pub returns-clause-log : goal.returns-clause-log
returns-clause-log c =
    cut_log c.args.base c.args.self.now.places.now c.args.self.now.used c.loop-i.i c.loop-i.self.places.now c.loop-i.kept (omega (arith, c.loop-i-test.false)) c.loop-i.invariant.2
