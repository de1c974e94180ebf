use Rattle.std.proofs.Common.{◌||◌, eqb, Some, sym, ap, ◌∙◌, subst}
use Rattle.std.proofs.lemmas.Result.{err_from_is_err_and}
use Rattle.backplane.specs.Ports.{waits}
use Rattle.cards.specs.Faults.{card_refusal}
use Rattle.frames.specs.Kinds.{kind_number}
use Rattle.frames.specs.Views.{frame_fields}
use Rattle.taking.specs.Openings.{Opens, lane_of}
use Rattle.taking.proofs.Copies.{entry_is}
use Rattle.taking.proofs.Openings.{front_seen, other_leader, other_front, message_front, broken_diff, diff_front}
use Rattle.taking.proofs.front.open.Goals as goal

pub returns-in_err-open_diff-in-DiffHead : goal.returns-in_err-open_diff-in-DiffHead
returns-in_err-open_diff-in-DiffHead g c =
    let port = c.args.port.now in
    let here = front_seen (waits port) c.in_ok-frame.frame (sym c.in_ok-frame.ensures.ok_part ∙ c.frame_at.ensures) in
    let p = err_from_is_err_and c.from_residual-in_err-open_diff-in-DiffHead.result c.from_residual-in_err-open_diff-in-DiffHead.ensures.1 in
    let broken = broken_diff _ _ c.in_ok-frame.frame _ here c.if-frame-port.false c.in-DiffHead.is c.in_err-open_diff-in-DiffHead.ensures.1 in
    subst (λ r. Opens port.lane.from (lane_of port) r) (sym p.1) (broken ∙ sym (ap (λ f. Some (card_refusal f)) (p.2 ∙ c.in_err-open_diff-in-DiffHead.ensures.0)))

pub returns-then-frame-port : goal.returns-then-frame-port
returns-then-frame-port g c =
    let here = front_seen (waits c.args.port.now) c.in_ok-frame.frame (sym c.in_ok-frame.ensures.ok_part ∙ c.frame_at.ensures) in
    other_leader _ _ c.in_ok-frame.frame _ here c.if-frame-port.true

pub returns-in_ok-open_diff-in-DiffHead : goal.returns-in_ok-open_diff-in-DiffHead
returns-in_ok-open_diff-in-DiffHead g c =
    let here = front_seen (waits c.args.port.now) c.in_ok-frame.frame (sym c.in_ok-frame.ensures.ok_part ∙ c.frame_at.ensures) in
    let found = c.in_ok-open_diff-in-DiffHead.ensures in
    diff_front _ _ c.in_ok-frame.frame _ here c.if-frame-port.false c.in-DiffHead.is c.in_ok-open_diff-in-DiffHead.field-0 found.0 found.1

pub returns-in_default-2 : goal.returns-in_default-2
returns-in_default-2 g c =
    let here = front_seen (waits c.args.port.now) c.in_ok-frame.frame (sym c.in_ok-frame.ensures.ok_part ∙ c.frame_at.ensures) in
    other_front _ _ c.in_ok-frame.frame _ here c.in_default-2.not-Message c.in_default-2.not-DiffHead

pub returns-in-Message : goal.returns-in-Message
returns-in-Message g c =
    let frame = c.in_ok-frame.frame in
    let here = front_seen (waits c.args.port.now) frame (sym c.in_ok-frame.ensures.ok_part ∙ c.frame_at.ensures) in
    let kind = ap (λ k. eqb (kind_number k) 1 || eqb (kind_number k) 3) c.in-Message.is in
    message_front _ _ frame _ here c.if-frame-port.false c.in-Message.is c.unwrap.result (entry_is (frame_fields frame) c.entry.result c.entry.ensures kind c.unwrap.result c.unwrap.ensures)
