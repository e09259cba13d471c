-- What can be done to a machine, and what each action may do to its legs.
-- Action    drive all legs to an end; halt them all; switch one off; one reads a word; one tick passes
-- drive_leg one leg driven to the end
-- drive_to  every leg driven to the end
-- halted    every leg off
-- off_at    that leg off; nothing for a missing leg
-- Effect    the legs before and after an action. Free is only what a leg shows that read a word, and what any leg shows after a pass
use Rattle.std.specs.Prelude.{◌≡◌, ℕ, List, map}
use Rattle.legs.specs.declared.position.Position.{Position}
use Rattle.legs.specs.declared.drive.Drive.TheVariants.{Off}
use Rattle.legs.specs.declared.end.End.{End}
use Rattle.legs.specs.Ends.{drive_towards}
use Rattle.machine.specs.Legs.{Leg, with_position, with_drive, frame}
use Rattle.machine.specs.LegNumbers.{at_leg}

pub data Action : Type 0 where
  Driving : End → Action
  Halting : Action
  SwitchingOff : ℕ → Action
  ReadingWord : ℕ → ℕ → Action
  Passing : Action

abbrev pub drive_leg : End → Leg → Leg
drive_leg e l = with_drive (drive_towards e) l

abbrev pub drive_to : End → List Leg → List Leg
drive_to e m = map (drive_leg e) m

abbrev pub halted : List Leg → List Leg
halted m = map (with_drive Off) m

abbrev pub off_at : ℕ → List Leg → List Leg
off_at k m = at_leg (with_drive Off) k m

abbrev pub Effect : Action → List Leg → List Leg → Type 0
Effect (Driving e) m n = n ≡ drive_to e m
Effect Halting m n = n ≡ halted m
Effect (SwitchingOff k) m n = n ≡ off_at k m
Effect (ReadingWord k w) m n = (p : Position) × (n ≡ at_leg (with_position p) k m)
Effect Passing m n = map frame n ≡ map frame m
