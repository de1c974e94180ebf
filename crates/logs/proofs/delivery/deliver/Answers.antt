use Rattle.std.proofs.Common.{◌≡◌, ℕ, ◌+◌, ◌<◌, ◌^◌, filter, length, refl, sym, ap, ◌∙◌, rules, tests, arith, List, MutBor}
use Rattle.std.proofs.lemmas.Iterator.{YieldsList-from_slice}
use Rattle.std.proofs.lemmas.List.{length-map}
use Rattle.std.proofs.lemmas.Iterator.Consumers.{YieldsList-from_filter}
use Rattle.frames.specs.Fields.{Words}
use Rattle.frames.specs.Views.{entry_fields}
use Rattle.frames.specs.declared.entry.Entry.{Entry}
use Rattle.protocol.specs.Booking.{inside}
use Rattle.protocol.specs.Committing.{applied, last_header}
use Rattle.logs.specs.declared.delivery.Delivered.{Delivered}
use Rattle.logs.proofs.Cuts.{kept_short}
use Rattle.logs.proofs.Logs.{passing}
use Rattle.logs.proofs.Deliveries.{Delivering, delivers}
use Rattle.logs.proofs.Folds.{folded, callable}
use Rattle.logs.proofs.delivery.deliver.Goals as goal

pub fold-requires-clause-callable : goal.fold-requires-clause-callable
fold-requires-clause-callable g c =
    let passes = λ (e : Entry). inside c.args.span.low c.args.span.high (entry_fields e) in
    callable _ (λ (a : Delivered × MutBor g.row.M.Denot). a.0.count) (YieldsList-from_filter _ passes (YieldsList-from_slice c.args.log.now (cc)) c.filter.ensures.closure (λ x b q k. search (rules, tests)))
    refl (λ b x d f' k. (search rules, search rules)) (λ b x h. let fits : b.0.count + 1 < 2 ^ 64 = omega (arith, h, kept_short passes c.args.log.now, ap length c.iter.ensures.rest, c.iter.ensures.bound) in search rules)

pub returns : goal.returns
returns g c =
    let m = g.M.Machine in
    let passes = λ (e : Entry). inside c.args.span.low c.args.span.high (entry_fields e) in
    let apply = λ (q : ℕ) (w : Words). m.applied q (m.unpacked w) in
    let start = m.state c.args.machine.now in
    let made = folded _ (λ (first : Delivered × MutBor g.row.M.Denot) (ys : List Entry) (a : Delivered × MutBor g.row.M.Denot). (a.1.ghost_name ≡ first.1.ghost_name) × Delivering apply c.args.span.low start ys a.0 (m.state a.1.now))
    c.fold.result c.fold.ensures.ran (YieldsList-from_filter _ passes (YieldsList-from_slice c.args.log.now (cc)) c.filter.ensures.closure (λ x b q k. search (rules, tests)))
    (refl, record { counts = refl; ends = refl; leads = refl })
    (λ ys a x b f' j k. let name : b.1.ghost_name ≡ a.1.ghost_name = search rules in ((name ∙ j.0, delivers apply c.args.span.low start ys a.0 b.0 (m.state a.1.now) (m.state b.1.now) x.now j.1 (search rules) (search rules) (search rules)), search rules)) in
    let found = passing (inside c.args.span.low c.args.span.high) c.args.log.now in
    record {
      count = made.1.counts ∙ sym (length-map (filter passes c.args.log.now) entry_fields) ∙ ap length found;
      last = made.1.ends ∙ ap (last_header c.args.span.low) found;
      state = (let name = made.0 in search rules) ∙ made.1.leads ∙ ap (λ es. applied apply es start) found;
    }
