-- A leg that shows what its detector last said, where `decodes` tells what each word shows.
-- detected_leg      its leg: it reads the words that show something
-- new_detected      how it starts
-- NewByDefault      it starts so, with a decoder that may be had by default
-- detected_driving  its value after it was given a drive
-- detected_reading  its value after a word
-- detected_passing  its value after a tick: the same
use Rattle.std.specs.Prelude.{◌≡◌, ℕ, is_some, Option}
use Rattle.std.specs.Option.{unwrap_or}
use Rattle.legs.specs.declared.position.Position.{Position}
use Rattle.legs.specs.declared.position.Position.TheVariants.{NoEndPosition}
use Rattle.legs.specs.declared.drive.Drive.{Drive}
use Rattle.legs.specs.declared.drive.Drive.TheVariants.{Off}
use Rattle.machine.specs.Legs.{Leg, leg_of}
use Rattle.makes.specs.declared.detected.Detected.{Detected}

abbrev pub detected_leg : {D : Type 0} → (ℕ → Option Position) → Detected D → Leg
detected_leg decodes x = leg_of x.position x.drive (λ w. is_some (decodes w))

abbrev pub new_detected : {D : Type 0} → D → Detected D
new_detected d = record { decoder = d; position = NoEndPosition; drive = Off }

abbrev pub NewByDefault : {D : Type 0} → (D → Type 0) → Detected D → Type 0
NewByDefault {D} is_default x = (d : D) × (is_default d × (x ≡ new_detected d))

abbrev pub detected_driving : {D : Type 0} → Drive → Detected D → Detected D
detected_driving d x = record x { drive = d }

abbrev pub detected_reading : {D : Type 0} → (ℕ → Option Position) → ℕ → Detected D → Detected D
detected_reading decodes w x = record x { position = unwrap_or (decodes w) x.position }

abbrev pub detected_passing : {D : Type 0} → Detected D → Detected D
detected_passing x = x
