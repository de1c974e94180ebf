use Rattle.std.proofs.Common.{not, refl, arith}
use Rattle.std.proofs.lemmas.List.{length-map}
use Rattle.std.proofs.lemmas.List.Filters.{length-filter_both}
use Rattle.frames.specs.Fields.{EntryFields}
use Rattle.frames.specs.Views.{entry_fields}
use Rattle.protocol.specs.Booking.{inside}
use Rattle.logs.specs.Log.{entries_of}
use Rattle.card_log.proofs.Due.{count_below}
use Rattle.card_log.proofs.delivery.deliver_due.Goals as goal

pub returns-then-card-eq0-clause-few : goal.returns-then-card-eq0-clause-few
returns-then-card-eq0-clause-few g c =
    let log = c.args.log.now in
    let passes = inside c.args.card.now.committed c.args.card.now.next in
    omega (arith, c.deliver.ensures.count, length-filter_both passes (λ (e : EntryFields). not (passes e)) (λ _. refl) (entries_of log), length-map log entry_fields)

pub returns-clause-more : goal.returns-clause-more
returns-clause-more g c =
    let found = c.in-Some.ensures in
    count_below c.in-Some.entry c.args.card.now.next (entries_of c.args.log.now) found
