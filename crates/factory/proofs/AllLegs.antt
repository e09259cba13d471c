-- What was found of legs 0 to 4 in a row holds of each of them.
use Rattle.std.proofs.Common.{◌≡◌, ℕ, ◌<◌, ◌≢◌, ◌↔◌, Bool, true, false, IsTrue, List, MatchBool, refl, sym, subst, ◌∙◌, zero-add, arith}
use Rattle.std.proofs.lemmas.List.FromFn.{get_or-range_with_len}
use Rattle.std.specs.List.{AllWithin, HoldsAt, range_with_len}
use Rattle.legs.specs.declared.drive.Drive.TheVariants.{Off}
use Rattle.machine.specs.Legs.{Leg}
use Rattle.machine.specs.LegNumbers.{known_legs, driven_at}
use Rattle.factory.specs.Switching.{AllOff}

pub all_or_one : (m : List Leg) (r : Bool) → MatchBool r (AllWithin (λ k. driven_at m k ≡ Off) (range_with_len 0 known_legs) 0 known_legs) ((k : ℕ) × (k < known_legs) × HoldsAt (λ j. driven_at m j ≢ Off) (range_with_len 0 known_legs) k) → IsTrue r ↔ AllOff m
all_or_one m true h =
    (λ e k known. subst (λ j. driven_at m j ≡ Off) (get_or-range_with_len 0 known_legs k 0 known ∙ zero-add k) (h k 0 (omega arith) known), λ all. refl)
all_or_one m false h =
    (λ e. cc, λ all. absurd (h.2 0 (subst (λ j. driven_at m j ≡ Off) (sym (get_or-range_with_len 0 known_legs h.0 0 h.1 ∙ zero-add h.0)) (all h.0 h.1))))
