-- What is counted of the rows.
use Rattle.std.specs.Prelude.{◌≡◌, ◌<◌, ℕ, length}
use Rattle.label_limits.specs.Counting.{Metered, count_of}
use Rattle.facet_list.specs.Rows.{Rows}
use Rattle.facet_list.specs.Room.{tally, live_in}

-- the count of each label is that of its live facets
pub record IsMetered (meter : Metered) (rows : Rows) : Type 0 where
  pub each : length meter.counts ≡ length meter.limits
  pub exact : (l : ℕ) → l < length meter.limits → count_of meter l ≡ tally (live_in l rows)
