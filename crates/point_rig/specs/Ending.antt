-- How the movements of a list of entries ended.
-- ended         the end of a movement, if the entry closes one: how, and after how many ticks
-- endings_from  all of them in order, where so many ticks had passed before
-- endings_of    the same from the beginning
use Rattle.std.specs.Prelude.{ℕ, List, [], ◌∷◌, ◌++◌, if◌then◌else◌}
use Rattle.point_rig.specs.declared.ending.Ending.{Ending}
use Rattle.histories.specs.History.{verdict_in}
use Rattle.histories.specs.OneEntry.{closes, ticks_by}
use Rattle.records.specs.declared.entry.Entry.{Entry}

abbrev pub ended : Entry → ℕ → List Ending
ended e n = if closes (verdict_in e) then record { verdict = verdict_in e; ticks = n } ∷ [] else []

abbrev pub endings_from : ℕ → List Entry → List Ending
endings_from n [] = []
endings_from n (e ∷ es) = ended e (ticks_by e.call.kind (verdict_in e) n) ++ endings_from (ticks_by e.call.kind (verdict_in e) n) es

abbrev pub endings_of : List Entry → List Ending
endings_of es = endings_from 0 es
