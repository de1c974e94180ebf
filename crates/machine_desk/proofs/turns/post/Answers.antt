use Rattle.std.proofs.Common.{sym, ap, ◌∙◌}
use Rattle.std.specs.Option.{option_map}
use Rattle.std.proofs.lemmas.Result.{err_from_is_err_and}
use Rattle.refusals.specs.declared.Refusal.TheVariants.{OutOfRange}
use Rattle.machine_desk.specs.Widths.{repeats_of}
use Rattle.machine_desk.specs.Turns.{posting_of, posted_of, posted_times}
use Rattle.machine_desk.proofs.Chains.{by_bits, passed, chained_ok, chained_err, refused_alike}
use Rattle.machine_desk.proofs.turns.post.Goals as goal

pub returns-in_err-count : goal.returns-in_err-count
returns-in_err-count c =
    let p = err_from_is_err_and c.from_residual-in_err-count.result c.from_residual-in_err-count.ensures.1 in
    let carrier = passed (λ k. posting_of k (by_bits c.args.cents)) c.args.carrier OutOfRange c.ranges.carrier c.in_ok-posting.ensures in
    let made = passed (posting_of c.args.carrier) c.args.cents OutOfRange c.ranges.cents carrier in
    let refused = passed repeats_of c.args.times OutOfRange c.ranges.times c.in_err-count.ensures in
    let first = chained_ok (posting_of c.args.carrier c.args.cents) OutOfRange c.in_ok-posting.posting _ made in
    let none = first ∙ chained_err (repeats_of c.args.times) OutOfRange c.in_err-count.field-0.0 _ refused in
    let whole = posted_of c.args.carrier c.args.cents c.args.times in
    record {
      value = rw (p.1, p.2) (refused_alike (repeats_of c.args.times) (option_map (λ x. x.0) whole) OutOfRange _ refused (ap (option_map (λ x. x.0)) none));
      after = sym (ap (λ x. posted_times x c.args.ledger.now.balances) none);
    }
