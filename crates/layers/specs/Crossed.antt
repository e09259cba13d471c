-- A machine mounted the other way round.
-- crossed         the machine below, crossed
-- crossed_legs    its legs: the same, each mirrored
-- crossed_action  what is done below in place of an action
-- crossed_does    its own rule: the one below, at that action
use Rattle.std.specs.Prelude.{List, map}
use Rattle.machine.specs.Actions.{Action, Driving, Halting, SwitchingOff, ReadingWord, Passing}
use Rattle.legs.specs.Crossing.{opposite_end}
use Rattle.machine.specs.Legs.{Leg, mirrored}
use Rattle.layers.specs.declared.crossed.Crossed.{Crossed}

abbrev pub crossed : {M : Type 0} → M → Crossed M
crossed m = record { below = m }

abbrev pub crossed_legs : {M : Type 0} → (M → List Leg) → Crossed M → List Leg
crossed_legs meaning x = map mirrored (meaning x.below)

abbrev pub crossed_action : Action → Action
crossed_action (Driving e) = Driving (opposite_end e)
crossed_action Halting = Halting
crossed_action (SwitchingOff k) = SwitchingOff k
crossed_action (ReadingWord k w) = ReadingWord k w
crossed_action Passing = Passing

abbrev pub crossed_does : {M : Type 0} → (M → Action → M → Type 0) → Crossed M → Action → Crossed M → Type 0
crossed_does does x a y = does x.below (crossed_action a) y.below
