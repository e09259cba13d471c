use Rattle.std.proofs.Common.{◌≡◌, ◌≤◌, ◌++◌, drop, vec_items}
use Rattle.point_rig.specs.Ending.{endings_from, endings_of}
use Rattle.point_rig.proofs.ending.endings.Given as goal

-- what was found so far, and what is to come
abbrev pub invariant-loop-entry : goal.invariant-loop-entry
invariant-loop-entry l =
    (endings_of l.entries ≡ vec_items l.endings ++ endings_from l.ticks (drop l.entry-index l.entries)) × (l.ticks ≤ l.entry-index)
