use Rattle.std.proofs.Common.{◌+◌, ◌-◌, drop, sym, ap, ◌∙◌}
use Rattle.backplane.specs.Ports.{waits}
use Rattle.taking.specs.Openings.{lane_of}
use Rattle.taking.specs.Wholes.{whole_behind}
use Rattle.taking.proofs.LaneReads.{frame_first, frame_none}
use Rattle.taking.proofs.Rises.{whole_more, whole_not, whole_short}
use Rattle.taking.proofs.diff.OpenedDiff.is_whole.Goals as goal

pub loop-index-preserved : goal.loop-index-preserved
loop-index-preserved g c =
    let frames = waits c.args.port.now in
    let d = c.args.self.now in
    let i = c.loop-index.index in
    ap (λ low. whole_behind low c.header_in-high.result (d.entries - (i + 1)) (drop (i + 1 + 1) (lane_of c.args.port.now))) c.header-low.ensures
    ∙ whole_more c.loop-index.low c.header_in-high.result d.entries i c.loop-index-test.true frames c.in-Some.frame (frame_first frames (i + 1) c.in-Some.frame c.in-Some.ensures) c.if-is_entry_between.ensures
    ∙ c.loop-index.invariant

pub returns-in_default-2 : goal.returns-in_default-2
returns-in_default-2 g c =
    let frames = waits c.args.port.now in
    let d = c.args.self.now in
    let i = c.loop-index.index in
    whole_short c.loop-index.low c.header_in-high.result d.entries i c.loop-index-test.true frames (frame_none frames (i + 1) (sym c.in_default.is ∙ c.frame_at.ensures))
    ∙ c.loop-index.invariant
    ∙ ap (λ high. whole_behind d.base high d.entries (drop 1 (lane_of c.args.port.now))) c.header_in-high.ensures

pub returns-in_default : goal.returns-in_default
returns-in_default g c =
    let frames = waits c.args.port.now in
    let d = c.args.self.now in
    let i = c.loop-index.index in
    whole_not c.loop-index.low c.header_in-high.result d.entries i c.loop-index-test.true frames c.in-Some.frame (frame_first frames (i + 1) c.in-Some.frame c.in-Some.ensures) c.if-is_entry_between.ensures
    ∙ c.loop-index.invariant
    ∙ ap (λ high. whole_behind d.base high d.entries (drop 1 (lane_of c.args.port.now))) c.header_in-high.ensures
