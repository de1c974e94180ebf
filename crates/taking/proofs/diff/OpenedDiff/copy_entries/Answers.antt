use Rattle.std.proofs.Common.{◌<◌, length, sym, ◌∙◌, arith}
use Rattle.std.proofs.lemmas.Bool.{cond-true, lt-ltb}
use Rattle.backplane.specs.Ports.{waits}
use Rattle.frames.specs.Views.{frame_fields}
use Rattle.logs.specs.Places.{logged}
use Rattle.logs.proofs.Logs.{appended}
use Rattle.taking.proofs.Copies.{entry_there, entry_is, copy_kind, copy_more}
use Rattle.taking.proofs.diff.OpenedDiff.copy_entries.Goals as goal

pub unwrap-requires : goal.unwrap-requires
unwrap-requires g c =
    let d = c.args.self.now in
    let frame = c.unwrap-frame.result in
    let kind = copy_kind d.base (d.epoch.0, d.epoch.1, 0) d.entries c.loop-index.index (waits c.args.port.now) c.requires.whole c.loop-index-test.true frame (sym c.frame_at.ensures ∙ c.unwrap-frame.ensures) in
    entry_there (frame_fields frame) c.entry.result c.entry.ensures kind

pub loop-index-preserved : goal.loop-index-preserved
loop-index-preserved g c =
    let d = c.args.self.now in
    let frame = c.unwrap-frame.result in
    let now = c.loop-index.log in
    let inv = c.loop-index.invariant in
    let wrote = c.append.ensures in
    let frames = waits c.args.port.now in
    let kind = copy_kind d.base (d.epoch.0, d.epoch.1, 0) d.entries c.loop-index.index frames c.requires.whole c.loop-index-test.true frame (sym c.frame_at.ensures ∙ c.unwrap-frame.ensures) in
    let room : now.used < length now.places.now = omega (arith, inv.0.1, inv.1, c.requires.room, c.loop-index-test.true) in
    let entry = entry_is (frame_fields frame) c.entry.result c.entry.ensures kind c.unwrap.result c.unwrap.ensures in
    let more = appended now.places.now c.append.new.self.places.now now.used c.append.new.self.used c.unwrap.result room wrote.places wrote.used in (
      (wrote.same.0 ∙ inv.0.0, wrote.same.1 ∙ inv.0.1),
      omega (arith, wrote.used ∙ cond-true _ _ _ (lt-ltb _ _ room), inv.1),
      copy_more d.base (d.epoch.0, d.epoch.1, 0) d.entries c.loop-index.index frames c.requires.whole c.loop-index-test.true frame (sym c.frame_at.ensures ∙ c.unwrap-frame.ensures) (logged c.args.log.now) (logged now) (logged c.append.new.self) c.unwrap.result entry inv.2 more,
    )
