-- The entries of a diff, frame by frame.
use Rattle.std.specs.Prelude.{ℕ, Bool, ◌&&◌, List, length, take, ◌==◌}
use Rattle.marks.specs.Kinds.{Header}
use Rattle.marks.specs.Order.{header_below}
use Rattle.frames.specs.Fields.{FrameFields, header_of}
use Rattle.protocol.specs.Taking.{rising_between}

abbrev pub entry_between : Header → Header → FrameFields → Bool
entry_between low high f = f.kind == 3 && (header_below low (header_of f) && header_below (header_of f) high)

-- the first n of these frames are there, and are entries that rise between low and high
abbrev pub whole_behind : Header → Header → ℕ → List FrameFields → Bool
whole_behind low high n frames = length (take n frames) == n && rising_between low high (take n frames)
