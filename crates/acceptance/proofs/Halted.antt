-- Legs that were halted are off, and show what they showed.
use Rattle.std.proofs.Common.{◌≡◌, List, Some, None, Option, sym, refl, ap, ◌∙◌}
use mathlib.Core.List.{map-map}
use Rattle.std.specs.Option.{option_map}
use Rattle.legs.specs.declared.drive.Drive.TheVariants.{Off}
use Rattle.machine.specs.Actions.{halted}
use Rattle.std.proofs.lemmas.List.{take-map}
use Rattle.legs.specs.declared.end.End.{End}
use Rattle.legs.specs.Combined.{combined}
use Rattle.machine.specs.Legs.{Leg, with_drive, positions}
use Rattle.machine.specs.LegNumbers.{known_legs, known_part, leg_at, driven_of}
use Rattle.machine.specs.LegNumbersLemmas.{leg_at_map}
use Rattle.factory.specs.Switching.{AllOff}
use Rattle.factory.specs.Throwing.{There}

one_off : (l : Option Leg) → driven_of (option_map (with_drive Off) l) ≡ Off
one_off None = refl
one_off (Some l) = refl

pub halted_off : (m n : List Leg) → n ≡ halted m → AllOff n
halted_off m n e = λ k known. rw e (ap driven_of (leg_at_map (with_drive Off) m k) ∙ one_off (leg_at m k))

halted_shows : (m : List Leg) → positions (known_part (halted m)) ≡ positions (known_part m)
halted_shows m = ap positions (take-map (with_drive Off) known_legs m) ∙ map-map (λ l. l.shows) (with_drive Off) (known_part m)

pub halted_there : (m n : List Leg) (end : End) → n ≡ halted m → There end n → There end m
halted_there m n end e h = ap combined (sym (halted_shows m)) ∙ ap (λ l. combined (positions (known_part l))) (sym e) ∙ h
