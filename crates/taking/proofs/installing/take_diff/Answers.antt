use Rattle.std.proofs.Common.{◌-◌, length, ltb, Ok, sym, ap, ◌∙◌, arith, rules}
use Rattle.backplane.specs.Ports.{lanes_of}
use Rattle.frames.specs.Fields.{fields_of}
use Rattle.logs.specs.Log.{entries_of}
use Rattle.logs.specs.Places.{logged}
use Rattle.protocol.specs.Taking.{kept_up_to}
use Rattle.taking.specs.Verdicts.{verdict_on}
use Rattle.taking.proofs.Diffs.{diff_stay, diff_room, diff_passed, diff_entered}
use Rattle.taking.proofs.installing.take_diff.Goals as goal

pub overflow_sub-full : goal.overflow_sub-full
overflow_sub-full g c =
    let log = c.args.log.now in
    let counted = c.count_up_to-stay.ensures ∙ ap (λ xs. length (kept_up_to c.args.diff.base (entries_of xs))) c.entries.ensures in
    omega (arith, c.capacity.ensures, diff_stay c.args.port.now.lane (lanes_of c.args.port.now) c.args.diff c.requires c.args.card.now log.places.now log.used c.count_up_to-stay.result counted)

pub install-requires-clause-room : goal.install-requires-clause-room
install-requires-clause-room g c =
    let log = c.args.log.now in
    let diff = c.args.diff in
    let stay = c.count_up_to-stay.result in
    let counted = c.count_up_to-stay.ensures ∙ ap (λ xs. length (kept_up_to diff.base (entries_of xs))) c.entries.ensures in
    let told = ap Ok (sym c.in-Ok-Enter.field-0-is) ∙ c.in-Ok-Enter.ensures ∙ λ k. verdict_on c.args.card.now (fields_of 2 (c.header_in-high.ensures k) (0, 0, 0, 0)) (ltb (c.capacity.ensures k - stay) diff.entries) in
    diff_room c.args.port.now.lane (lanes_of c.args.port.now) diff c.requires c.args.card.now log.places.now log.used stay counted told

pub returns-in-Ok-Pass-clause-part : goal.returns-in-Ok-Pass-clause-part
returns-in-Ok-Pass-clause-part g c =
    let log = c.args.log.now in
    let diff = c.args.diff in
    let stay = c.count_up_to-stay.result in
    let counted = c.count_up_to-stay.ensures ∙ ap (λ xs. length (kept_up_to diff.base (entries_of xs))) c.entries.ensures in
    let told = ap Ok (sym c.in-Ok-Pass.field-0-is) ∙ c.in-Ok-Pass.ensures ∙ λ k. verdict_on c.args.card.now (fields_of 2 (c.header_in-high.ensures k) (0, 0, 0, 0)) (ltb (c.capacity.ensures k - stay) diff.entries) in
    let passed = diff_passed c.args.port.now.lane (lanes_of c.args.port.now) diff c.requires c.args.card.now log.places.now log.used stay counted in
    search (rules, passed)

pub returns-in-Ok-Enter-clause-part : goal.returns-in-Ok-Enter-clause-part
returns-in-Ok-Enter-clause-part g c =
    let log = c.args.log.now in
    let diff = c.args.diff in
    let stay = c.count_up_to-stay.result in
    let counted = c.count_up_to-stay.ensures ∙ ap (λ xs. length (kept_up_to diff.base (entries_of xs))) c.entries.ensures in
    let told = ap Ok (sym c.in-Ok-Enter.field-0-is) ∙ c.in-Ok-Enter.ensures ∙ λ k. verdict_on c.args.card.now (fields_of 2 (c.header_in-high.ensures k) (0, 0, 0, 0)) (ltb (c.capacity.ensures k - stay) diff.entries) in
    diff_entered c.args.port.now.lane (lanes_of c.args.port.now) diff c.requires c.args.card.now log.places.now log.used stay counted (lanes_of c.install.new.port) c.install.ensures.lanes c.install.new.card (logged c.install.new.log) c.install.ensures.card c.install.ensures.log told
