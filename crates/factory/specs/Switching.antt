-- Which legs the factory test switches off after a tick.
-- arrived_at      the leg is where it is driven
-- off_if_arrived  that leg off if it has arrived
-- off_below       so for each leg with a lower number, leg 0 first
-- arrivals        which of legs 0 to 4 have arrived, each after those with a lower number
-- AllOff          legs 0 to 4 are off
use Rattle.std.specs.Prelude.{◌≡◌, ℕ, zero, suc, ◌<◌, Bool, List, map, if◌then◌else◌}
use Rattle.std.specs.List.{range_with_len}
use Rattle.legs.specs.declared.drive.Drive.TheVariants.{Off}
use Rattle.legs.specs.Ends.{reached}
use Rattle.machine.specs.Actions.{off_at}
use Rattle.machine.specs.Legs.{Leg}
use Rattle.machine.specs.LegNumbers.{known_legs, driven_at, shown_at}

abbrev pub arrived_at : List Leg → ℕ → Bool
arrived_at m k = reached (driven_at m k) (shown_at m k)

abbrev pub off_if_arrived : ℕ → List Leg → List Leg
off_if_arrived k m = if arrived_at m k then off_at k m else m

abbrev pub off_below : ℕ → List Leg → List Leg
off_below zero m = m
off_below (suc k) m = off_if_arrived k (off_below k m)

abbrev pub arrivals : List Leg → List Bool
arrivals m = map (λ k. arrived_at (off_below k m) k) (range_with_len 0 known_legs)

abbrev pub AllOff : List Leg → Type 0
AllOff m = (k : ℕ) → k < known_legs → driven_at m k ≡ Off
