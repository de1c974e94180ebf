-- The lanes of the box: the frames in the slots of its table.
use Rattle.std.specs.Prelude.{◌≡◌, ℕ, ◌≤◌, false, List, [], length, slice_index_or}
use Rattle.std.proofs.Common.{subst, ap, ◌∙◌}
use Rattle.frames.specs.declared.frame.Frame.{Frame}
use Rattle.backplane.specs.Blank.{blank}
use Rattle.backplane.specs.Lanes.{Lanes, is_lane}
use Rattle.ring_table.specs.Rings.{through}
use Rattle.ring_table.specs.Table.{slots}
use Rattle.ring_table.proofs.Bounds.{through_within, through_nowhere}
use Rattle.frame_box.specs.declared.boxed.FrameBox.{FrameBox}

abbrev pub frame_in : List Frame → ℕ → Frame
frame_in frames j = slice_index_or frames j blank

abbrev pub box_lanes : FrameBox → Lanes
box_lanes s = through (frame_in s.frames) (slots s.table)

pub box_within : (s : FrameBox) (f t l : ℕ) → length (box_lanes s f t l) ≤ 8
box_within s f t l = subst (λ (c : ℕ). length (box_lanes s f t l) ≤ c) s.eight (through_within (frame_in s.frames) s.table f t l)

pub box_nowhere : (s : FrameBox) (f t l : ℕ) → is_lane 3 f t l ≡ false → box_lanes s f t l ≡ []
box_nowhere s f t l isnt =
    through_nowhere (frame_in s.frames) s.table f t l (ap (λ (n : ℕ). is_lane n f t l) s.three ∙ isnt)
