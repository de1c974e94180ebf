-- The frame that a slot counts as holding until one is sent there.
use Rattle.std.specs.Prelude.{refl}
use Rattle.frames.specs.declared.frame.Frame.{Frame}
use Rattle.frames.specs.declared.kind.Kind.TheVariants.{AcceptRow}

abbrev pub blank : Frame
blank = record { kind = AcceptRow; round = 0; leader = 0; count = 0; w1 = 0; w2 = 0; w3 = 0; w4 = 0; well = refl }
