-- What a machine means: the list of its legs, leg 0 first.
-- Leg            what a leg shows, how it is driven, and which words it reads
-- leg_of         the leg of a make of one leg
-- with_position  the leg, showing this
-- with_drive     the leg, driven like this
-- frame          all of a leg but what it shows
-- mirrored       the leg with left and right exchanged, in what it shows and how it is driven
-- positions      what the legs show, in order
-- words          what the legs read, in order
use Rattle.std.specs.Prelude.{ℕ, Bool, List, map}
use Rattle.legs.specs.Crossing.{opposite_position, opposite_drive}
use Rattle.legs.specs.declared.position.Position.{Position}
use Rattle.legs.specs.declared.position.Position.TheVariants.{NoEndPosition}
use Rattle.legs.specs.declared.drive.Drive.{Drive}

pub record Leg : Type 0 where
  pub shows : Position
  pub driven : Drive
  pub reads : ℕ → Bool

abbrev pub leg_of : Position → Drive → (ℕ → Bool) → Leg
leg_of p d r = record { shows = p; driven = d; reads = r }

abbrev pub with_position : Position → Leg → Leg
with_position p l = record l { shows = p }

abbrev pub with_drive : Drive → Leg → Leg
with_drive d l = record l { driven = d }

abbrev pub frame : Leg → Leg
frame l = with_position NoEndPosition l

abbrev pub mirrored : Leg → Leg
mirrored l = with_position (opposite_position l.shows) (with_drive (opposite_drive l.driven) l)

abbrev pub positions : List Leg → List Position
positions m = map (λ l. l.shows) m

abbrev pub words : List Leg → List (ℕ → Bool)
words m = map (λ l. l.reads) m
