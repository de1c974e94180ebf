use Rattle.std.proofs.Common.{◌≡◌, ◌+◌, ◌-◌, ◌%◌, ◌<◌, List, ℕ, get_or, take, drop, refl, ap, ◌∙◌, arith}
use lib.Lanes.{number_l}
use Rattle.std.proofs.lemmas.Simd.{Each1-from_get_or}
use Rattle.frames.specs.Slot.{field_widths}
use Rattle.frames.proofs.Parsing.{Read, read_on, read_off, dishonest, untidy, read_all}
use Rattle.frames.proofs.slot.read_fields.Goals as goal
use Rattle.frames.proofs.slot.read_fields.Goals.{then-left-eq1+else-value-eq0, else-left-eq1}

-- the bytes from `at` up to `at + w` are the first w of those from `at` on
part : (at w v : ℕ) (slot : List ℕ) → v ≡ number_l 256 (take (at + w - at) (drop at slot)) → v ≡ number_l 256 (take w (drop at slot))
part at w v slot e =
    let size : at + w - at ≡ w = omega arith in
    e ∙ ap (λ n. number_l 256 (take n (drop at slot))) size

pub returns-then-value-eq0 : goal.returns-then-value-eq0
returns-then-value-eq0 c =
    let within = c.loop-i-test.true in
    let read = part c.loop-i.at (get_or field_widths c.loop-i.i 0) c.load-value.result c.args.slot.now c.load-value.ensures in
    (refl, λ vs fit e. dishonest c.loop-i.i c.loop-i.at c.loop-i.left c.load-value.result c.loop-i.values c.args.slot.now vs within c.loop-i.invariant c.if-left-eq1.true read c.if-value-eq0.true fit e)

pub loop-i-preserved : goal.loop-i-preserved
loop-i-preserved c =
    let within = c.loop-i-test.true in
    elim c.if-left-eq1.branch [
      | then-left-eq1+else-value-eq0 w ↦
          let read = part c.loop-i.at (get_or field_widths c.loop-i.i 0) w.load-value.result c.args.slot.now w.load-value.ensures in
          let on = read_on c.loop-i.i c.loop-i.at c.loop-i.left w.load-value.result c.loop-i.values c.args.slot.now within c.loop-i.invariant w.if-left-eq1.true read w.if-value-eq0.false in
          let begins : c.if-left-eq1.at ≡ c.loop-i.at + get_or field_widths c.loop-i.i 0 = w.at-is in
          rw (begins, w.values-is) on
      | else-left-eq1 w ↦
          let even : c.loop-i.left % 2 ≡ 0 = omega (arith, w.if-left-eq1.false) in
          rw (w.at-is, w.values-is) (read_off c.loop-i.i c.loop-i.at c.loop-i.left c.loop-i.values c.args.slot.now within c.loop-i.invariant even)
    ]

pub returns-then-not-zeros_from : goal.returns-then-not-zeros_from
returns-then-not-zeros_from c =
    let eight : c.loop-i.i ≡ 8 = omega arith in
    let last : Read 8 c.loop-i.at c.loop-i.left c.loop-i.values c.args.slot.now = rw eight at c.loop-i.invariant in
    (refl, λ vs fit e. untidy c.loop-i.at c.loop-i.left c.loop-i.values c.args.slot.now vs last c.if-not-zeros_from.ensures fit e)

pub returns : goal.returns
returns c =
    let eight : c.loop-i.i ≡ 8 = omega arith in
    let last : Read 8 c.loop-i.at c.loop-i.left c.loop-i.values c.args.slot.now = rw eight at c.loop-i.invariant in
    read_all c.loop-i.at c.loop-i.left c.loop-i.values c.args.slot.now c.requires (Each1-from_get_or (λ b. b < 256) c.args.slot.now 0 (λ i h. (c.type_inv.slot i).fits)) last c.if-not-zeros_from.ensures
