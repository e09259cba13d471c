-- The legs of a machine as a point sees them.
-- status_of   what a leg shows and how it is driven
-- statuses    the same of every leg, in order
-- look        legs 0 to 4, and whether there are more
-- leg_status  the leg with a number; a missing leg shows no end position, and is off
-- known_leg   the leg with a number, if it is not missing
use Rattle.std.specs.Prelude.{ℕ, List, map, Option}
use Rattle.std.specs.Option.{option_map}
use Rattle.machine.specs.Legs.{Leg}
use Rattle.machine.specs.LegNumbers.{driven_at, leg_at, shown_at}
use Rattle.records.specs.declared.snapshot.LegStatus.{LegStatus}
use Rattle.records.specs.declared.snapshot.Snapshot.{Snapshot}
use Rattle.records.specs.Snapshots.{snapshot_of}

abbrev pub status_of : Leg → LegStatus
status_of l = record { shows = l.shows; driven = l.driven }

abbrev pub statuses : List Leg → List LegStatus
statuses m = map status_of m

abbrev pub look : List Leg → Snapshot
look m = snapshot_of (statuses m)

abbrev pub leg_status : List Leg → ℕ → LegStatus
leg_status m k = record { shows = shown_at m k; driven = driven_at m k }

abbrev pub known_leg : List Leg → ℕ → Option LegStatus
known_leg m k = option_map status_of (leg_at m k)
