-- A model stays within its range, and arrives on time.
use Rattle.std.proofs.Common.{◌≡◌, ℕ, zero, suc, ◌+◌, ◌-◌, ◌<◌, ◌≤◌, min, cond, eqb, ltb, leb, refl, arith}
use Rattle.std.proofs.lemmas.Bool.{cond_both, ltb-true, leb-true, eq-eqb, ne_eqb}
use Rattle.std.proofs.lemmas.Bool.Decides.{nat_tests}
use Rattle.legs.specs.declared.drive.Drive.{Drive}
use Rattle.legs.specs.declared.drive.Drive.TheVariants as drive
use Rattle.legs.specs.declared.end.End.{End}
use Rattle.legs.specs.declared.end.End.TheVariants.{Left, Right}
use Rattle.legs.specs.declared.position.Position.TheVariants as position
use Rattle.machine.specs.Actions.{Action, Driving, Halting, SwitchingOff, ReadingWord, Passing}
use Rattle.legs.specs.Ends.{drive_towards, position_at}
use Rattle.machine.specs.SingleLegs.{single_after}
use Rattle.makes.specs.declared.model.Model.{Model}
use Rattle.makes.specs.Model.{place_after, place_shows, model_driving, model_reading, model_passing}
use Rattle.makes.specs.Throws.{InRange, StaysInRange, passes, thrown, ticks_to, shown_then, Arrives}

place_within : (d : Drive) (place travel : ℕ) → place ≤ travel → place_after d place travel ≤ travel
place_within drive.Left place travel h = omega arith
place_within drive.Right place travel h = cond_both (ltb place travel) (place + 1) place (λ p. p ≤ travel) (λ e. omega (arith, ltb-true place travel e)) (λ e. h)
place_within drive.Off place travel h = h

driven_in_range : (d : Drive) (x : Model) → InRange x → InRange (model_driving d x)
driven_in_range d x h = record { shortest = h.shortest; longest = h.longest; within = h.within }

read_in_range : (w : ℕ) (x : Model) → InRange x → InRange (model_reading w x)
read_in_range w x h = record {
  shortest = h.shortest;
  longest = h.longest;
  within = cond_both (leb w x.travel) w x.place (λ p. p ≤ x.travel) (leb-true w x.travel) (λ e. h.within);
}

passed_in_range : (x : Model) → InRange x → InRange (model_passing x)
passed_in_range x h = record { shortest = h.shortest; longest = h.longest; within = place_within x.drive x.place x.travel h.within }

after_in_range : (a : Action) (x : Model) → InRange x → InRange (single_after model_driving model_reading model_passing a x)
after_in_range (Driving e) x h = driven_in_range (drive_towards e) x h
after_in_range Halting x h = driven_in_range drive.Off x h
after_in_range (SwitchingOff k) x h = cond_both (eqb k 0) (model_driving drive.Off x) x InRange (λ e. driven_in_range drive.Off x h) (λ e. h)
after_in_range (ReadingWord k w) x h = cond_both (eqb k 0) (model_reading w x) x InRange (λ e. read_in_range w x h) (λ e. h)
after_in_range Passing x h = passed_in_range x h

pub stays_in_range : StaysInRange
stays_in_range = record {
  new = λ travel. record { shortest = omega arith; longest = omega arith; within = omega arith };
  after = after_in_range;
}

-- ticks change neither the drive nor the travel
passes_drive : (n : ℕ) (x : Model) → (passes n x).drive ≡ x.drive
passes_drive zero x = refl
passes_drive (suc n) x = passes_drive n x

passes_travel : (n : ℕ) (x : Model) → (passes n x).travel ≡ x.travel
passes_travel zero x = refl
passes_travel (suc n) x = passes_travel n x

place_left : (n : ℕ) (x : Model) → (thrown Left n x).place ≡ x.place - n
place_left zero x = omega arith
place_left (suc n) x = rw (passes_drive n (model_driving drive.Left x), place_left n x) (omega arith)

one_right : (place travel n : ℕ) → cond (ltb (min travel (place + n)) travel) (min travel (place + n) + 1) (min travel (place + n)) ≡ min travel (place + suc n)
one_right place travel n = grind (arith, nat_tests)

place_right : (n : ℕ) (x : Model) → x.place ≤ x.travel → (thrown Right n x).place ≡ min x.travel (x.place + n)
place_right zero x h = omega arith
place_right (suc n) x h = rw (passes_drive n (model_driving drive.Right x), passes_travel n (model_driving drive.Right x), place_right n x h) (one_right x.place x.travel n)

left_shown : (place travel : ℕ) → place ≡ 0 → place_shows place travel ≡ position.Left
left_shown place travel e = rw (eq-eqb place 0 e) refl

right_shown : (place travel : ℕ) → 1 ≤ travel → place ≡ travel → place_shows place travel ≡ position.Right
right_shown place travel h e = rw (ne_eqb place 0 (λ z. omega arith), eq-eqb place travel e) refl

left_only : (place travel : ℕ) → place_shows place travel ≡ position.Left → place ≡ 0
left_only place travel e = grind (arith, nat_tests)

right_only : (place travel : ℕ) → place_shows place travel ≡ position.Right → place ≡ travel
right_only place travel e = grind (arith, nat_tests)

arrives_in_time : (e : End) (x : Model) (n : ℕ) → InRange x → ticks_to e x ≤ n → shown_then e n x ≡ position_at e
arrives_in_time Left x n h t = left_shown (thrown Left n x).place (thrown Left n x).travel (omega (arith, place_left n x))
arrives_in_time Right x n h t =
    right_shown (thrown Right n x).place (thrown Right n x).travel
    (omega (arith, h.shortest, passes_travel n (model_driving drive.Right x)))
    (omega (arith, h.within, place_right n x h.within, passes_travel n (model_driving drive.Right x)))

arrives_not_before : (e : End) (x : Model) (n : ℕ) → InRange x → n < ticks_to e x → shown_then e n x ≡ position_at e → ⊥
arrives_not_before Left x n h t e =
    omega (arith, place_left n x, left_only (thrown Left n x).place (thrown Left n x).travel e)
arrives_not_before Right x n h t e =
    omega (arith, place_right n x h.within, passes_travel n (model_driving drive.Right x), right_only (thrown Right n x).place (thrown Right n x).travel e)

pub arrives : Arrives
arrives = record { in_time = arrives_in_time; not_before = arrives_not_before }
