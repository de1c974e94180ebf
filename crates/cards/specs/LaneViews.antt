-- The plain numbers of the frames that wait in each lane.
use Rattle.std.specs.Prelude.{map}
use Rattle.backplane.specs.Lanes.{Lanes, LanesOf}
use Rattle.frames.specs.Fields.{FrameFields}
use Rattle.frames.specs.Views.{frame_fields}

abbrev pub lane_fields : Lanes → LanesOf FrameFields
lane_fields lanes from to lane = map frame_fields (lanes from to lane)
