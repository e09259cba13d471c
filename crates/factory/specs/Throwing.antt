-- How a movement of the factory test ends.
-- There   legs 0 to 4 together show the end
-- Moved   after at most so many ticks: they are there, on this tick; or there was time, and they are not there
-- Thrown  the same, and where they are not there, legs 0 to 4 are off
use Rattle.std.specs.Prelude.{◌≡◌, ℕ, ◌≤◌, List, IfNone, Option, MatchOption}
use Rattle.legs.specs.declared.end.End.{End}
use Rattle.legs.specs.Combined.{combined}
use Rattle.legs.specs.Ends.{position_at}
use Rattle.machine.specs.Legs.{Leg, positions}
use Rattle.machine.specs.LegNumbers.{known_part}
use Rattle.factory.specs.Switching.{AllOff}

abbrev pub There : End → List Leg → Type 0
There end m = combined (positions (known_part m)) ≡ position_at end

abbrev pub Moved : ℕ → End → Option ℕ → List Leg → Type 0
Moved ticks end arrived m = MatchOption arrived (1 ≤ ticks → There end m → ⊥) (λ tick. (1 ≤ tick) × (tick ≤ ticks) × There end m)

abbrev pub Thrown : ℕ → End → Option ℕ → List Leg → Type 0
Thrown limit end arrived m = Moved limit end arrived m × IfNone arrived (AllOff m)
