use Rattle.std.proofs.Common.{◌≡◌, ℕ, ◌*◌, ◌≤◌, true, List, length, sym, ap, ◌∙◌, subst}
use Rattle.ring_table.specs.Rings.{through}
use Rattle.ring_table.specs.Shapes.{slots_of}
use Rattle.ring_table.specs.Table.{slots}
use Rattle.rings.specs.Slots.{every, frame_at, is_frame_at}
use Rattle.rings.proofs.Frames.{long_kept, sent_long, sent_frames, sent_lanes}
use Rattle.rings.proofs.ring.calls.RingsBackplane.send.Goals as goal

pub invariant_of-self-2 : goal.invariant_of-self-2
invariant_of-self-2 c =
    let s = c.args.self.now in
    let t = s.table.shape in
    let now = c.enter.new.self in
    let out = c.in_ok-slot.ensures in
    let long = sent_long t.cards t.room (slots s.table) s.store.bytes.now c.args.lane.from c.args.lane.to c.args.lane.number (slots now) c.in_ok-slot.slot c.args.frame s.long out.entered in
    let frames = sent_frames t.cards t.room (slots s.table) s.store.bytes.now c.args.lane.from c.args.lane.to c.args.lane.number (slots now) c.in_ok-slot.slot c.args.frame s.long out.entered s.frames in
    let now_long = subst (λ (bs : List ℕ). slots_of t.cards t.room * 48 ≤ length bs) (sym c.write.ensures) long in
    record {
      long = long_kept t.cards t.room now.shape.cards now.shape.room (length c.write.new.self.bytes.now) out.cards out.room now_long;
      frames = subst (λ (bs : List ℕ). (f t l : ℕ) → every (through (is_frame_at bs) (slots now) f t l) ≡ true) (sym c.write.ensures) frames;
    }

pub returns-clause-lanes : goal.returns-clause-lanes
returns-clause-lanes c =
    let s = c.args.self.now in
    let t = s.table.shape in
    ap (λ (bs : List ℕ). through (frame_at bs) (slots c.enter.new.self)) c.write.ensures
    ∙ (sent_lanes t.cards t.room (slots s.table) s.store.bytes.now c.args.lane.from c.args.lane.to c.args.lane.number (slots c.enter.new.self) c.in_ok-slot.slot c.args.frame s.long c.in_ok-slot.ensures.entered).1
