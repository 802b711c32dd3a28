-- The numbers that a meter holds.
use Rattle.xa_outside.specs.Numbers.{Numbers, IsMeter}
use Rattle.xa_outside.specs.declared.meter.Meter.{Meter}

abbrev pub numbers : Meter → Numbers
numbers m = record { pulled = m.pulled; since = m.since; drafted = m.drafted; gap = m.gap }

-- as the invariant of a meter says
pub meter_law : (m : Meter) → IsMeter (numbers m)
meter_law m = record { pulled_small = m.pulled_small; since_small = m.since_small; drafted_small = m.drafted_small; gap_small = m.gap_small; covers = m.covers }
