-- The legs of a point at one moment.
-- absent       what is said of a leg that is not there
-- snapshot_of  a list of legs as a snapshot: legs 0 to 4, and whether there are more
-- present      those of some legs that are there
-- legs_in      the legs of a snapshot as a list
-- shown_in     what they show, in order
-- join_leg     what a group of legs shows together with one more, if that is there
use Rattle.std.specs.Prelude.{List, [], ◌∷◌, map, length, Some, None, Option, nat_lt}
use Rattle.std.specs.Option.{unwrap_or}
use Rattle.std.specs.List.{slice_get}
use Rattle.legs.specs.declared.drive.Drive.TheVariants.{Off}
use Rattle.legs.specs.declared.position.Position.{Position}
use Rattle.legs.specs.declared.position.Position.TheVariants.{NoEndPosition}
use Rattle.legs.specs.Combined.{joined}
use Rattle.records.specs.declared.snapshot.LegStatus.{LegStatus}
use Rattle.records.specs.declared.snapshot.Snapshot.{Snapshot}

abbrev pub absent : LegStatus
absent = record { shows = NoEndPosition; driven = Off }

abbrev pub snapshot_of : List LegStatus → Snapshot
snapshot_of ls =
    record { first = unwrap_or (slice_get ls 0) absent; others = slice_get ls 1 ∷ (slice_get ls 2 ∷ (slice_get ls 3 ∷ (slice_get ls 4 ∷ []))); more = nat_lt 5 (length ls) }

abbrev pub present : List (Option LegStatus) → List LegStatus
present [] = []
present (None ∷ os) = present os
present (Some l ∷ os) = l ∷ present os

abbrev pub legs_in : Snapshot → List LegStatus
legs_in x = x.first ∷ present x.others

abbrev pub shown_in : Snapshot → List Position
shown_in x = map (λ l. l.shows) (legs_in x)

abbrev pub join_leg : Position → Option LegStatus → Position
join_leg p None = p
join_leg p (Some l) = joined p l.shows
