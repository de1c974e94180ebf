-- Where a lane stands in a table of n × n × 4 rows.
use Rattle.std.specs.Prelude.{◌≡◌, ℕ, ◌+◌, ◌-◌, ◌*◌, ◌<◌, true, false, cond, Ok, Err, Result, ◌==◌}
use Rattle.backplane.specs.declared.fault.LaneFault.{LaneFault}
use Rattle.backplane.specs.declared.fault.LaneFault.TheVariants.{NoSuchLane}
use Rattle.backplane.specs.Lanes.{is_lane}

-- lanes 0, 4, 5, 6 are rows 0, 1, 2, 3 of their pair of cards
abbrev pub lane_row : ℕ → ℕ
lane_row l = cond (l == 0) 0 (l - 3)

abbrev pub lane_index : ℕ → ℕ → ℕ → ℕ → ℕ
lane_index n f t l = ((f - 1) * n + (t - 1)) * 4 + lane_row l

-- the index of a lane that there is, within the table and within that of seven cards
abbrev pub Indexed : ℕ → ℕ → ℕ → ℕ → Result ℕ LaneFault → Type 0
Indexed n f t l (Ok i) = (is_lane n f t l ≡ true) × (i ≡ lane_index n f t l) × (i < n * n * 4) × (i < 196)
Indexed n f t l (Err e) = (is_lane n f t l ≡ false) × (e ≡ NoSuchLane)
