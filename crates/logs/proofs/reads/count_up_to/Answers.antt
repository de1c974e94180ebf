use Rattle.std.proofs.Common.{◌≡◌, ◌∙◌, rules}
use Rattle.std.proofs.iter.runs.Made.{chains}
use Rattle.std.specs.List.{count_by}
use Rattle.marks.specs.Order.{header_up_to}
use Rattle.frames.specs.Fields.{EntryFields}
use Rattle.logs.specs.Log.{is_up_to}
use Rattle.logs.proofs.Logs.{passing_count}
use Rattle.logs.proofs.reads.count_up_to.Goals as goal

pub returns : goal.returns
returns c =
    let counted : c.count.result ≡ count_by (is_up_to c.args.base) c.args.log.now = search (rules, chains) in
    counted ∙ passing_count (λ (e : EntryFields). header_up_to e.header c.args.base) c.args.log.now
