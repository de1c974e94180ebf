use Rattle.std.proofs.Common.{◌≡◌, cond, sym, subst, rules, tests}
use Rattle.std.proofs.lemmas.Iterator.{YieldsList-from_slice}
use Rattle.std.proofs.lemmas.Iterator.Consumers.{fold_from_yields_List}
use Rattle.marks.specs.Rows.{largest_of, Largest}
use Rattle.marks.proofs.RowLoops.{is_largest}
use Rattle.marks.proofs.rows.largest.Goals as goal

pub returns-clause-largest : goal.returns-clause-largest
returns-clause-largest g c =
    let up_to = g.T.Mark.up_to in
    let value : c.fold.result ≡ largest_of up_to c.args.first c.args.rows.now =
    fold_from_yields_List _ (λ most row. cond (up_to most row) row most) _ _ c.fold.ensures.ran (YieldsList-from_slice c.args.rows.now cc) (λ a x b q k. search (rules, tests))
    in
    subst (Largest up_to _) (sym value) (is_largest up_to g.met.T.Mark.order c.args.first c.args.rows.now)
