use Rattle.std.proofs.Common.{◌≡◌, ◌+◌, ◌≤◌, true, ◌++◌, length, take}
use Rattle.backplane.specs.Lanes.{is_lane, with_lane}
use Rattle.backplane.proofs.sending.send_all.Given as goal

abbrev pub invariant-loop-frame : goal.invariant-loop-frame
invariant-loop-frame g l =
    let b = g.B.Backplane in
    let L = b.lanes l.initial.backplane in
    (is_lane (b.count l.initial.backplane) l.lane.from l.lane.to l.lane.number ≡ true)
    × (length (L l.lane.from l.lane.to l.lane.number) + length l.frames ≤ b.room l.initial.backplane)
    × (b.count l.backplane ≡ b.count l.initial.backplane)
    × (b.room l.backplane ≡ b.room l.initial.backplane)
    × (b.lanes l.backplane ≡ with_lane L l.lane.from l.lane.to l.lane.number (L l.lane.from l.lane.to l.lane.number ++ take l.frame-index l.frames))
