-- The model, a simulated leg.
-- in_range       a number brought into a range: the nearer bound where it lies outside
-- place_shows    the left end at place 0, the right end at the travel, else none
-- place_after    one place towards the driven end, until it is there
-- model_leg      its leg: words up to the travel are places
-- new_model      how it starts
-- model_driving  its value after it was given a drive
-- model_reading  its value after a word
-- model_passing  its value after a tick
use Rattle.std.specs.Prelude.{ℕ, ◌+◌, ◌-◌, min, max, ◌==◌, nat_le, nat_lt, if◌then◌else◌}
use Rattle.legs.specs.declared.position.Position.{Position}
use Rattle.legs.specs.declared.position.Position.TheVariants as position
use Rattle.legs.specs.declared.drive.Drive.{Drive}
use Rattle.legs.specs.declared.drive.Drive.TheVariants.{Left, Right, Off}
use Rattle.machine.specs.Legs.{Leg, leg_of}
use Rattle.makes.specs.declared.model.Model.{Model}

abbrev pub in_range : ℕ → ℕ → ℕ → ℕ
in_range low high n = max low (min high n)

abbrev pub place_shows : ℕ → ℕ → Position
place_shows place travel = if place == 0 then position.Left else if place == travel then position.Right else position.NoEndPosition

abbrev pub place_after : Drive → ℕ → ℕ → ℕ
place_after Left place travel = place - 1
place_after Right place travel = if nat_lt place travel then place + 1 else place
place_after Off place travel = place

abbrev pub model_leg : Model → Leg
model_leg x = leg_of (place_shows x.place x.travel) x.drive (λ w. nat_le w x.travel)

abbrev pub new_model : ℕ → Model
new_model d = record { travel = in_range 1 600 d; place = 0; drive = Off }

abbrev pub model_driving : Drive → Model → Model
model_driving d x = record x { drive = d }

abbrev pub model_reading : ℕ → Model → Model
model_reading w x = record x { place = if nat_le w x.travel then w else x.place }

abbrev pub model_passing : Model → Model
model_passing x = record x { place = place_after x.drive x.place x.travel }
