-- What no action changes.
use Rattle.std.proofs.Common.{◌≡◌, ℕ, Bool, List, map, length, sym, refl, ap, ◌∙◌}
use mathlib.Core.List.{map-map}
use Rattle.std.proofs.lemmas.List.{length-map}
use Rattle.legs.specs.declared.drive.Drive.TheVariants.{Off}
use Rattle.machine.specs.Actions.{Action, Driving, Halting, SwitchingOff, ReadingWord, Passing, drive_leg, Effect}
use Rattle.machine.specs.Legs.{Leg, words, frame, with_position, with_drive}
use Rattle.machine.specs.LegNumbersLemmas.{at_leg_keeps}

abbrev read_by : Leg → ℕ → Bool
read_by l = l.reads

-- each leg reads the words that it read before, so there are as many legs as before
pub effect_words : (a : Action) (m n : List Leg) → Effect a m n → words n ≡ words m
effect_words (Driving e) m n h = rw h (map-map read_by (drive_leg e) m)
effect_words Halting m n h = rw h (map-map read_by (with_drive Off) m)
effect_words (SwitchingOff k) m n h = rw h (at_leg_keeps read_by (with_drive Off) (λ l. refl) k m)
effect_words (ReadingWord k w) m n h = rw h.1 (at_leg_keeps read_by (with_position h.0) (λ l. refl) k m)
effect_words Passing m n h = sym (map-map read_by frame n) ∙ ap (map read_by) h ∙ map-map read_by frame m

pub effect_length : (a : Action) (m n : List Leg) → Effect a m n → length n ≡ length m
effect_length a m n h =
    let same : length (words n) ≡ length (words m) = ap length (effect_words a m n h) in
    sym (length-map n read_by) ∙ same ∙ length-map m read_by
