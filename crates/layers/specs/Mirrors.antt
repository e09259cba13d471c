-- Mirrored legs: what they show, how they are driven, what they read, what is done to them; and that a crossed machine keeps the laws.
use Rattle.std.specs.Prelude.{◌≡◌, ℕ, List, [], ◌∷◌, map, Some, None, Option, refl}
use Rattle.std.proofs.Common.{sym, ap, ◌∙◌}
use Rattle.std.proofs.lemmas.List.{length-map}
use Rattle.std.specs.Option.{option_map}
use Rattle.legs.specs.declared.drive.Drive.TheVariants.{Off}
use Rattle.legs.specs.declared.end.End.{End}
use Rattle.legs.specs.declared.end.End.TheVariants.{Left, Right}
use Rattle.machine.specs.Actions.{Action, Driving, Halting, SwitchingOff, ReadingWord, Passing, Effect, drive_leg, drive_to, halted, off_at}
use Rattle.legs.specs.Crossing.{opposite_position, opposite_drive, opposite_end}
use Rattle.machine.specs.Laws.{Laws}
use Rattle.machine.specs.Legs.{Leg, with_position, with_drive, frame, mirrored}
use Rattle.machine.specs.LegNumbers.{count_of, leg_at, shown_of, driven_of, answer_of, shown_at, driven_at, read_answer}
use Rattle.machine.specs.LegNumbersLemmas.{leg_at_map, at_leg_map}
use Rattle.layers.specs.Crossed.{crossed_legs, crossed_action, crossed_does}

-- two things done to every leg, the one after the other or the other after the one
pub map_swap : (h f g : Leg → Leg) → ((l : Leg) → h (f l) ≡ g (h l)) → (m : List Leg) → map h (map f m) ≡ map g (map h m)
map_swap h f g same [] = refl
map_swap h f g same (l ∷ m) = rw (same l) (ap (λ n. g (h l) ∷ n) (map_swap h f g same m))

shown_of_mirrored : (o : Option Leg) → shown_of (option_map mirrored o) ≡ opposite_position (shown_of o)
shown_of_mirrored None = refl
shown_of_mirrored (Some l) = refl

driven_of_mirrored : (o : Option Leg) → driven_of (option_map mirrored o) ≡ opposite_drive (driven_of o)
driven_of_mirrored None = refl
driven_of_mirrored (Some l) = refl

answer_of_mirrored : (o : Option Leg) (w : ℕ) → answer_of (option_map mirrored o) w ≡ answer_of o w
answer_of_mirrored None w = refl
answer_of_mirrored (Some l) w = refl

pub count_mirrored : (m : List Leg) → count_of (map mirrored m) ≡ count_of m
count_mirrored m = rw length-map refl

pub shown_mirrored : (m : List Leg) (k : ℕ) → shown_at (map mirrored m) k ≡ opposite_position (shown_at m k)
shown_mirrored m k = ap shown_of (leg_at_map mirrored m k) ∙ shown_of_mirrored (leg_at m k)

pub driven_mirrored : (m : List Leg) (k : ℕ) → driven_at (map mirrored m) k ≡ opposite_drive (driven_at m k)
driven_mirrored m k = ap driven_of (leg_at_map mirrored m k) ∙ driven_of_mirrored (leg_at m k)

pub answer_mirrored : (m : List Leg) (k w : ℕ) → read_answer (map mirrored m) k w ≡ read_answer m k w
answer_mirrored m k w = ap (λ o. answer_of o w) (leg_at_map mirrored m k) ∙ answer_of_mirrored (leg_at m k) w

drive_mirrored : (e : End) (l : Leg) → mirrored (drive_leg (opposite_end e) l) ≡ drive_leg e (mirrored l)
drive_mirrored Left l = refl
drive_mirrored Right l = refl

pub drive_to_mirrored : (e : End) (m : List Leg) → map mirrored (drive_to (opposite_end e) m) ≡ drive_to e (map mirrored m)
drive_to_mirrored e m = map_swap mirrored (drive_leg (opposite_end e)) (drive_leg e) (drive_mirrored e) m

pub halted_mirrored : (m : List Leg) → map mirrored (halted m) ≡ halted (map mirrored m)
halted_mirrored m = map_swap mirrored (with_drive Off) (with_drive Off) (λ l. refl) m

pub off_at_mirrored : (k : ℕ) (m : List Leg) → map mirrored (off_at k m) ≡ off_at k (map mirrored m)
off_at_mirrored k m = at_leg_map mirrored (with_drive Off) (with_drive Off) (λ l. refl) k m

pub frame_mirrored : (m : List Leg) → map frame (map mirrored m) ≡ map mirrored (map frame m)
frame_mirrored m = map_swap frame mirrored mirrored (λ l. refl) m

-- an effect below, seen crossed
pub effect_mirrored : (a : Action) (m n : List Leg) → Effect (crossed_action a) m n → Effect a (map mirrored m) (map mirrored n)
effect_mirrored (Driving e) m n h = rw h (drive_to_mirrored e m)
effect_mirrored Halting m n h = rw h (halted_mirrored m)
effect_mirrored (SwitchingOff k) m n h = rw h (off_at_mirrored k m)
effect_mirrored (ReadingWord k w) m n h =
    (opposite_position h.0, rw h.1 (at_leg_map mirrored (with_position h.0) (with_position (opposite_position h.0)) (λ l. refl) k m))
effect_mirrored Passing m n h = frame_mirrored n ∙ ap (map mirrored) h ∙ sym (frame_mirrored m)

pub crossed_laws : {M : Type 0} {meaning : M → List Leg} {does : M → Action → M → Type 0} → Laws meaning does → Laws (crossed_legs meaning) (crossed_does does)
crossed_laws {meaning = meaning} kept =
    record {
      some_leg = λ x. rw length-map (kept.some_leg x.below);
      effect = λ x a y h. effect_mirrored a (meaning x.below) (meaning y.below) (kept.effect x.below (crossed_action a) y.below h);
    }
