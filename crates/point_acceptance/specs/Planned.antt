-- How the movements of the factory test have to end.
-- ends_like   a movement ended like this, after so many ticks
-- as_planned  there are three: arrived with time to spare, arrived on the last tick, timed out
use Rattle.std.specs.Prelude.{ℕ, Bool, false, ◌&&◌, List, [], ◌∷◌, ◌==◌}
use Rattle.point_rig.specs.declared.ending.Ending.{Ending}
use Rattle.records.specs.Verdicts.{same_verdict}
use Rattle.records.specs.declared.verdict.Verdict.{Verdict}
use Rattle.records.specs.declared.verdict.Verdict.TheVariants.{Arrived, TimedOut}

abbrev pub ends_like : Ending → Verdict → ℕ → Bool
ends_like x v n = same_verdict x.verdict v && x.ticks == n

abbrev pub as_planned : List Ending → Bool
as_planned [] = false
as_planned (a ∷ []) = false
as_planned (a ∷ (b ∷ [])) = false
as_planned (a ∷ (b ∷ (c ∷ []))) = ends_like a Arrived 60 && (ends_like b Arrived 120 && ends_like c TimedOut 120)
as_planned (a ∷ (b ∷ (c ∷ (d ∷ more)))) = false
