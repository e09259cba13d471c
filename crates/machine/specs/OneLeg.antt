-- A make of one leg keeps the laws of a machine.
use Rattle.std.specs.Prelude.{◌≡◌, ℕ, zero, suc, false, [], ◌∷◌, ◌==◌, nat_lt, refl}
use Rattle.std.proofs.Common.{arith, ap}
use Rattle.std.proofs.lemmas.Bool.{cond_both, ne_eqb}
use Rattle.legs.specs.declared.drive.Drive.{Drive}
use Rattle.legs.specs.declared.drive.Drive.TheVariants.{Off}
use Rattle.machine.specs.Actions.{Action, Driving, Halting, SwitchingOff, ReadingWord, Passing, Effect}
use Rattle.legs.specs.Ends.{drive_towards}
use Rattle.machine.specs.Laws.{Laws}
use Rattle.machine.specs.Legs.{Leg, with_position, with_drive, frame}
use Rattle.machine.specs.LegNumbers.{known_legs, at_leg}
use Rattle.machine.specs.SingleLegs.{SingleLaws, single_legs, single_after, single_does}

-- two legs that differ at most in what they show
from_frame : (l k : Leg) → frame l ≡ frame k → l ≡ with_position l.shows k
from_frame l k e = ap (with_position l.shows) e

not_first : (k : ℕ) → (suc k == 0) ≡ false
not_first k = ne_eqb (suc k) 0 (λ e. omega arith)

no_other : (f : Leg → Leg) (k : ℕ) (l : Leg) → at_leg f (suc k) (l ∷ []) ≡ l ∷ []
no_other f k l = cond_both (nat_lt (suc k) known_legs) (l ∷ []) (l ∷ []) (λ m. m ≡ l ∷ []) (λ e. refl) (λ e. refl)

module _ {M : Type 0} {leg : M → Leg} {driving : Drive → M → M} {reading : ℕ → M → M} {passing : M → M} (kept : SingleLaws leg driving reading passing) where
  alone : {l k : Leg} → l ≡ k → l ∷ [] ≡ k ∷ []
  alone e = ap (λ y. y ∷ []) e

  after_effect : (x : M) (a : Action) → Effect a (single_legs leg x) (single_legs leg (single_after driving reading passing a x))
  after_effect x (Driving e) = alone (kept.by_drive (drive_towards e) x)
  after_effect x Halting = alone (kept.by_drive Off x)
  after_effect x (SwitchingOff zero) = alone (kept.by_drive Off x)
  after_effect x (SwitchingOff (suc k)) = rw (not_first k, no_other (with_drive Off) k (leg x)) refl
  after_effect x (ReadingWord zero w) = ((leg (reading w x)).shows, alone (from_frame (leg (reading w x)) (leg x) (kept.by_word w x)))
  after_effect x (ReadingWord (suc k) w) = ((leg x).shows, rw (not_first k, no_other (with_position (leg x).shows) k (leg x)) refl)
  after_effect x Passing = alone (kept.by_tick x)

  pub single_laws : Laws (single_legs leg) (single_does driving reading passing)
  single_laws = record { some_leg = λ x. omega arith; effect = λ x a y e. rw e (after_effect x a) }
