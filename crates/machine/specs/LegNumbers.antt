-- Legs by their numbers. Callers know legs 0 to 4: any other number is a missing leg.
-- known_legs   how many legs have a number that callers can use
-- known_part   those legs
-- most_counted the highest count that is given
-- count_of     how many legs there are, as far as they are counted
-- leg_at       the leg with this number, or none if it is missing
-- shown_of     what such a leg shows; a missing leg shows no end position
-- driven_of    how it is driven; a missing leg is off
-- answer_of    whether it reads a word: the leg is looked at first, then the word
-- shown_at, driven_at, read_answer   these three of the leg with a number
-- at_index     a list with this done to the element of this number
-- at_leg       the legs with this done to the leg of this number; nothing for a missing leg
use Rattle.std.specs.Prelude.{ℕ, zero, suc, min, List, [], ◌∷◌, length, take, Some, None, Ok, Err, Option, Result, nat_lt, if◌then◌else◌}
use Rattle.std.specs.List.{slice_get}
use Rattle.legs.specs.declared.position.Position.{Position}
use Rattle.legs.specs.declared.position.Position.TheVariants.{NoEndPosition}
use Rattle.legs.specs.declared.drive.Drive.{Drive}
use Rattle.legs.specs.declared.drive.Drive.TheVariants.{Off}
use Rattle.legs.specs.declared.read_refusal.ReadRefusal.{ReadRefusal}
use Rattle.legs.specs.declared.read_refusal.ReadRefusal.TheVariants.{MissingLeg, UnreadableWord}
use Rattle.machine.specs.Legs.{Leg}

abbrev pub known_legs : ℕ
known_legs = 5

abbrev pub known_part : List Leg → List Leg
known_part m = take known_legs m

abbrev pub most_counted : ℕ
most_counted = 6

abbrev pub count_of : List Leg → ℕ
count_of m = min most_counted (length m)

abbrev pub leg_at : List Leg → ℕ → Option Leg
leg_at m k = if nat_lt k known_legs then slice_get m k else None

abbrev pub shown_of : Option Leg → Position
shown_of None = NoEndPosition
shown_of (Some l) = l.shows

abbrev pub driven_of : Option Leg → Drive
driven_of None = Off
driven_of (Some l) = l.driven

abbrev pub answer_of : Option Leg → ℕ → Result Unit ReadRefusal
answer_of None w = Err MissingLeg
answer_of (Some l) w = if l.reads w then Ok tt else Err UnreadableWord

abbrev pub shown_at : List Leg → ℕ → Position
shown_at m k = shown_of (leg_at m k)

abbrev pub driven_at : List Leg → ℕ → Drive
driven_at m k = driven_of (leg_at m k)

abbrev pub read_answer : List Leg → ℕ → ℕ → Result Unit ReadRefusal
read_answer m k w = answer_of (leg_at m k) w

abbrev pub at_index : {X : Type 0} → (X → X) → ℕ → List X → List X
at_index f k [] = []
at_index f zero (x ∷ xs) = f x ∷ xs
at_index f (suc k) (x ∷ xs) = x ∷ at_index f k xs

abbrev pub at_leg : (Leg → Leg) → ℕ → List Leg → List Leg
at_leg f k m = if nat_lt k known_legs then at_index f k m else m
