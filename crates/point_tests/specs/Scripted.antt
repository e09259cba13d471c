-- A leg that shows what a script of four steps says.
-- last_word         the highest word that it reads
-- scripted_leg      its leg: words do not depend on the script
-- new_scripted      how it starts: at the first step, off
-- scripted_stepped  its value one step later; the last step stays
-- scripted_driving  its value after it was given a drive
-- scripted_reading  its value after a word: one step later, whichever word it is
-- scripted_passing  its value after a tick: one step later
use Rattle.std.specs.Prelude.{ℕ, nat_le}
use Rattle.legs.specs.declared.position.Position.{Position}
use Rattle.legs.specs.declared.drive.Drive.{Drive}
use Rattle.legs.specs.declared.drive.Drive.TheVariants.{Off}
use Rattle.machine.specs.Legs.{Leg, leg_of}
use Rattle.point_tests.specs.declared.scripted.Scripted.{Scripted}

abbrev pub last_word : ℕ
last_word = 9

abbrev pub scripted_leg : Scripted → Leg
scripted_leg x = leg_of x.shown x.drive (λ w. nat_le w last_word)

abbrev pub new_scripted : Position → Position → Position → Position → Scripted
new_scripted first second third fourth = record { shown = first; second = second; third = third; fourth = fourth; drive = Off }

abbrev pub scripted_stepped : Scripted → Scripted
scripted_stepped x = record { shown = x.second; second = x.third; third = x.fourth; fourth = x.fourth; drive = x.drive }

abbrev pub scripted_driving : Drive → Scripted → Scripted
scripted_driving d x = record x { drive = d }

abbrev pub scripted_reading : ℕ → Scripted → Scripted
scripted_reading w x = scripted_stepped x

abbrev pub scripted_passing : Scripted → Scripted
scripted_passing x = scripted_stepped x
