use Rattle.std.proofs.Common.{◌<◌, length, arith, rules}
use Rattle.logs.specs.Log.{is_up_to}
use Rattle.logs.proofs.Cuts.{copied_in, copied_out, copy_refused, copy_done, copy_room}
use Rattle.logs.proofs.reads.read_up_to.Goals as goal
use Rattle.logs.proofs.reads.read_up_to.Goals.{then-is_up_to, else-is_up_to}

pub returns-then-out-wanted : goal.returns-then-out-wanted
returns-then-out-wanted c =
    let d = copy_refused c.args.base c.args.log.now c.args.out.now c.count_up_to-wanted.result c.count_up_to-wanted.ensures c.if-out-wanted.true in
    record { answer = d.0; places = d.1 }

room : (c : goal.After-out-1) → c.loop-entry.copied < length c.args.out.now
room c = copy_room c.args.base c.args.log.now c.args.out.now c.count_up_to-wanted.result c.count_up_to-wanted.ensures c.loop-entry.entry-index c.loop-entry.out c.loop-entry.copied c.if-out-wanted.false c.loop-entry.invariant c.entry-item.result c.loop-entry-test.true c.entry-item.is c.if-is_up_to.ensures

pub offset_bounds-out-copied : goal.offset_bounds-out-copied
offset_bounds-out-copied c = let h = room c in search rules

pub bounds-out-copied : goal.bounds-out-copied
bounds-out-copied c = omega (arith, room c)

pub overflow_add-copied : goal.overflow_add-copied
overflow_add-copied c = let h = room c in search rules

pub loop-entry-preserved : goal.loop-entry-preserved
loop-entry-preserved c =
    let room = copy_room c.args.base c.args.log.now c.args.out.now c.count_up_to-wanted.result c.count_up_to-wanted.ensures c.loop-entry.entry-index c.loop-entry.out c.loop-entry.copied c.if-out-wanted.false c.loop-entry.invariant c.entry-item.result c.loop-entry-test.true c.entry-item.is in
    elim c.if-is_up_to.branch [
      | then-is_up_to w ↦ copied_in (is_up_to c.args.base) c.args.log.now c.loop-entry.entry-index c.args.out.now c.loop-entry.out c.loop-entry.copied c.loop-entry.invariant c.entry-item.result c.loop-entry-test.true c.entry-item.is c.if-is_up_to.out c.if-is_up_to.copied w.if-is_up_to.ensures (room w.if-is_up_to.ensures) w.out-is w.copied-is
      | else-is_up_to w ↦ copied_out (is_up_to c.args.base) c.args.log.now c.loop-entry.entry-index c.args.out.now c.loop-entry.out c.loop-entry.copied c.loop-entry.invariant c.entry-item.result c.loop-entry-test.true c.entry-item.is c.if-is_up_to.out c.if-is_up_to.copied w.if-is_up_to.ensures w.out-is w.copied-is
    ]

pub returns : goal.returns
returns c =
    let d = copy_done c.args.base c.args.log.now c.args.out.now c.count_up_to-wanted.result c.count_up_to-wanted.ensures c.loop-entry.entry-index c.loop-entry.out c.loop-entry.copied c.loop-entry-test.false c.if-out-wanted.false c.loop-entry.invariant in
    record { answer = d.0; places = d.1 }
