use Rattle.std.proofs.Common.{◌≡◌, ◌∙◌, rules}
use Rattle.std.proofs.iter.runs.Made.{chains}
use Rattle.std.specs.List.{count_by}
use Rattle.frames.specs.Views.{entry_fields}
use Rattle.frames.specs.declared.entry.Entry.{Entry}
use Rattle.protocol.specs.Booking.{inside}
use Rattle.logs.proofs.Logs.{passing_count}
use Rattle.logs.proofs.reads.inside_count.Goals as goal

pub returns : goal.returns
returns c =
    let counted : c.count.result ≡ count_by (λ (e : Entry). inside c.args.span.low c.args.span.high (entry_fields e)) c.args.log.now = search (rules, chains) in
    counted ∙ passing_count (inside c.args.span.low c.args.span.high) c.args.log.now
