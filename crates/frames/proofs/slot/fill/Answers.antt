use Rattle.std.proofs.Common.{◌≡◌, ◌^◌, ◌≤◌, true, false, ◌++◌, length, get_or, drop, refl, ap, ◌∙◌, arith, rules}
use Rattle.std.proofs.lemmas.Bool.{eq-eqb, ne_eqb}
use Rattle.frames.specs.Slot.{field_list, list_slot}
use Rattle.frames.specs.Views.{frame_fields}
use Rattle.frames.proofs.Reading.{frame_fits}
use Rattle.frames.proofs.Filling.{Filled, fill_next, fill_all, past_slot}
use Rattle.frames.proofs.slot.fill.Goals as goal
use Rattle.frames.proofs.slot.fill.Goals.{then-value-ne0, else-value-ne0}

pub loop-i-preserved : goal.loop-i-preserved
loop-i-preserved c =
    let long : 48 ≤ length c.loop-i.out = search rules in
    let values = field_list (frame_fields c.args.frame) in
    let fit = frame_fits (frame_fields c.args.frame) c.args.frame.well in
    let read = ap (λ l. get_or l c.loop-i.i 0) c.fields-values.ensures in
    let next = fill_next c.loop-i.i c.loop-i.at c.loop-i.map c.loop-i.bit _ values c.loop-i.out _ c.store.new.out in
    elim c.if-value-ne0.branch [
      | then-value-ne0 w ↦ next false _ _ c.loop-i-test.true fit read (ne_eqb _ 0 w.if-value-ne0.true) long c.loop-i.invariant c.store.ensures w.at-is w.map-is
      | else-value-ne0 w ↦ next true _ _ c.loop-i-test.true fit read (eq-eqb _ 0 w.if-value-ne0.false) long c.loop-i.invariant c.store.ensures (omega (arith, w.at-is)) w.map-is
    ]

pub overflow_cast-out : goal.overflow_cast-out
overflow_cast-out c =
    let eight : c.loop-i.i ≡ 8 = search rules in
    let power : c.loop-i.bit ≡ 256 = c.loop-i.invariant.power ∙ ap (λ n. 2 ^ n) eight in
    let below = c.loop-i.invariant.below in
    search rules

pub returns : goal.returns
returns c =
    let eight : c.loop-i.i ≡ 8 = search rules in
    let long : 48 ≤ length c.loop-i.out = search rules in
    let rest = drop 48 (c.copy_from_slice.new.self ++ drop 48 c.args.out.now) in
    let kept = past_slot c.args.out.now c.copy_from_slice.new.self c.copy_from_slice.ensures.after in
    let values = field_list (frame_fields c.args.frame) in
    let last : Filled 8 c.loop-i.at c.loop-i.map c.loop-i.bit values c.loop-i.out rest = rw eight at c.loop-i.invariant in
    fill_all c.loop-i.at c.loop-i.map c.loop-i.bit values c.loop-i.out rest long refl last
    ∙ ap (λ l. list_slot values ++ l) kept
