-- A machine of one leg.
-- SingleLaws    a drive changes the drive alone; a word and a tick change at most what the leg shows
-- single_legs   its legs: the one
-- single_after  its value after each action; leg 0 is the only one there is
-- single_does   its own rule: that value, and no other
use Rattle.std.specs.Prelude.{◌≡◌, ℕ, List, [], ◌∷◌, ◌==◌, if◌then◌else◌}
use Rattle.legs.specs.declared.drive.Drive.{Drive}
use Rattle.legs.specs.declared.drive.Drive.TheVariants.{Off}
use Rattle.machine.specs.Actions.{Action, Driving, Halting, SwitchingOff, ReadingWord, Passing}
use Rattle.legs.specs.Ends.{drive_towards}
use Rattle.machine.specs.Legs.{Leg, with_drive, frame}

pub record SingleLaws {M : Type 0} (leg : M → Leg) (driving : Drive → M → M) (reading : ℕ → M → M) (passing : M → M) : Type 0 where
  pub by_drive : (d : Drive) (x : M) → leg (driving d x) ≡ with_drive d (leg x)
  pub by_word : (w : ℕ) (x : M) → frame (leg (reading w x)) ≡ frame (leg x)
  pub by_tick : (x : M) → frame (leg (passing x)) ≡ frame (leg x)

abbrev pub single_legs : {M : Type 0} → (M → Leg) → M → List Leg
single_legs leg x = leg x ∷ []

abbrev pub single_after : {M : Type 0} → (Drive → M → M) → (ℕ → M → M) → (M → M) → Action → M → M
single_after driving reading passing (Driving e) x = driving (drive_towards e) x
single_after driving reading passing Halting x = driving Off x
single_after driving reading passing (SwitchingOff k) x = if k == 0 then driving Off x else x
single_after driving reading passing (ReadingWord k w) x = if k == 0 then reading w x else x
single_after driving reading passing Passing x = passing x

abbrev pub single_does : {M : Type 0} → (Drive → M → M) → (ℕ → M → M) → (M → M) → M → Action → M → Type 0
single_does driving reading passing x a y = y ≡ single_after driving reading passing a x
