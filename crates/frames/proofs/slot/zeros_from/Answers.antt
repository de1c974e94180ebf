use Rattle.std.proofs.Common.{◌≡◌, arith}
use Rattle.frames.proofs.Tail.{none_asked, one_more, all_of_them}
use Rattle.frames.proofs.slot.zeros_from.Goals as goal

pub loop-i-init : goal.loop-i-init
loop-i-init c = none_asked c.args.at c.args.slot.now

pub loop-i-preserved : goal.loop-i-preserved
loop-i-preserved c = one_more c.args.at c.loop-i.i c.loop-i.zeros c.args.slot.now c.requires c.loop-i-test.true c.loop-i.invariant

pub returns : goal.returns
returns c =
    let end : c.loop-i.i ≡ 48 = omega arith in
    all_of_them c.args.at c.loop-i.i c.loop-i.zeros c.args.slot.now c.requires end c.loop-i.invariant
