-- Which legs are to be switched off.
-- no_leg        none
-- leg_arrived   the leg is there, and shows the end that it is driven to
-- legs_arrived  every leg of a snapshot that has arrived
use Rattle.std.specs.Prelude.{Bool, false, [], ◌∷◌, map, Some, None, Option}
use Rattle.legs.specs.Ends.{reached}
use Rattle.records.specs.declared.snapshot.LegStatus.{LegStatus}
use Rattle.records.specs.declared.snapshot.Snapshot.{Snapshot}
use Rattle.rules.specs.declared.switches.Switches.{Switches}

abbrev pub no_leg : Switches
no_leg = record { legs = false ∷ (false ∷ (false ∷ (false ∷ (false ∷ [])))) }

abbrev pub leg_arrived : Option LegStatus → Bool
leg_arrived None = false
leg_arrived (Some l) = reached l.driven l.shows

abbrev pub legs_arrived : Snapshot → Switches
legs_arrived x = record { legs = map leg_arrived (Some x.first ∷ x.others) }
