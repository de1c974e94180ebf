use Rattle.std.proofs.Common.{◌≡◌, ◌&&◌, refl, sym, ◌∙◌, count_by, rules}
use Rattle.std.proofs.lemmas.List.Recursion.{is_sum_by}
use Rattle.marks.specs.Rows.{count_between}
use Rattle.marks.proofs.rows.count_between.Goals as goal

pub returns : goal.returns
returns g c =
    let up_to = g.T.Mark.up_to in
    let counted : c.count.result ≡ count_by (λ row. up_to c.args.low row && up_to row c.args.high) c.args.rows.now = search rules in
    counted ∙ sym (is_sum_by (count_between up_to c.args.low c.args.high) _ refl (λ x xs. refl) c.args.rows.now)
