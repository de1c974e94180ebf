-- What is said of a lane that there is.
use Rattle.std.specs.Prelude.{◌≡◌, ℕ, List}
use Rattle.frames.specs.declared.frame.Frame.{Frame}
use Rattle.backplane.specs.declared.lanes.Backplane.{Ghosts}
use Rattle.backplane.specs.declared.port.Port.{Port}
use Rattle.backplane.specs.Lanes.{Lanes, with_lane}

module _ {B : Type 0} {b : Ghosts B} where
  abbrev pub room_of : Port B b → ℕ
  room_of p = b.room p.backplane.now

  abbrev pub lanes_of : Port B b → Lanes
  lanes_of p = b.lanes p.backplane.now

  -- the frames that wait there
  abbrev pub waits : Port B b → List Frame
  waits p = lanes_of p p.lane.from p.lane.to p.lane.number

  -- the lanes, were it these frames that wait there
  abbrev pub lanes_at : Port B b → List Frame → Lanes
  lanes_at p xs = with_lane (lanes_of p) p.lane.from p.lane.to p.lane.number xs

  -- the same lane of the same backplane, of as many cards and with as much room
  pub record SamePort (p p' : Port B b) : Type 0 where
    pub name : p'.backplane.ghost_name ≡ p.backplane.ghost_name
    pub lane : p'.lane ≡ p.lane
    pub count : b.count p'.backplane.now ≡ b.count p.backplane.now
    pub room : room_of p' ≡ room_of p
