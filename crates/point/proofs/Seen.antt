-- The legs of a machine by their numbers, and the snapshot made of them.
use Rattle.std.proofs.Common.{◌≡◌, ℕ, ◌<◌, ◌≤◌, min, ltb, List, [], ◌∷◌, map, length, Some, None, Option, unwrap_or, sym, refl, ◌∙◌, ⊎_elim, arith}
use Rattle.std.proofs.lemmas.List.{length-map}
use Rattle.std.proofs.lemmas.Option.{slice_get-map, slice_get_past}
use Rattle.std.proofs.lemmas.Bool.{cases_lt, lt-ltb, le-ltb}
use Rattle.std.specs.Option.{option_map}
use Rattle.std.specs.List.{slice_get}
use Rattle.machine.proofs.Together.{known_leg as leg_is_there}
use Rattle.machine.specs.Legs.{Leg}
use Rattle.machine.specs.LegNumbers.{count_of, driven_of, known_legs, leg_at, shown_of}
use Rattle.point.specs.Looks.{known_leg, leg_status, status_of, statuses}
use Rattle.records.specs.declared.snapshot.LegStatus.{LegStatus}
use Rattle.records.specs.Snapshots.{absent, snapshot_of}

one_leg : (m : List Leg) (k : ℕ) (l : Leg) → leg_at m k ≡ Some l → Some (leg_status m k) ≡ known_leg m k
one_leg m k l e = rw e refl

pub leg_there : (m : List Leg) (k : ℕ) → k < min (count_of m) known_legs → Some (leg_status m k) ≡ known_leg m k
leg_there [] k h = absurd (omega arith)
leg_there (d ∷ m) k h =
    let within : k < length (d ∷ m) = omega arith in
    let known : k < known_legs = omega arith in
    one_leg (d ∷ m) k _ (leg_is_there (d ∷ m) k d within known)

no_leg_at : (m : List Leg) (k : ℕ) → min (count_of m) known_legs ≤ k → leg_at m k ≡ None
no_leg_at m k h =
    ⊎_elim
    (λ known. rw (lt-ltb k known_legs known) (slice_get_past m k (omega arith)))
    (λ beyond. rw (le-ltb k known_legs beyond) refl)
    (cases_lt k known_legs)

pub leg_missing : (m : List Leg) (k : ℕ) → min (count_of m) known_legs ≤ k → None ≡ known_leg m k
leg_missing m k h = rw (no_leg_at m k h) refl

first_status : (o : Option Leg) → ◌≡◌ {A = LegStatus} (record { shows = shown_of o; driven = driven_of o }) (unwrap_or (option_map status_of o) absent)
first_status None = refl
first_status (Some l) = refl

more_legs : (m : List Leg) → ltb known_legs (count_of m) ≡ ltb known_legs (length m)
more_legs m =
    ⊎_elim
    (λ many. lt-ltb known_legs (count_of m) (omega arith) ∙ sym (lt-ltb known_legs (length m) many))
    (λ few. le-ltb known_legs (count_of m) (omega arith) ∙ sym (le-ltb known_legs (length m) few))
    (cases_lt known_legs (length m))

pub looked : (m : List Leg) → snapshot_of (statuses m) ≡ record { first = leg_status m 0; others = map (known_leg m) (1 ∷ (2 ∷ (3 ∷ (4 ∷ [])))); more = ltb known_legs (count_of m) }
looked m =
    rw (slice_get-map status_of m 0, slice_get-map status_of m 1, slice_get-map status_of m 2, slice_get-map status_of m 3, slice_get-map status_of m 4, length-map m status_of, first_status (slice_get m 0), more_legs m) refl
