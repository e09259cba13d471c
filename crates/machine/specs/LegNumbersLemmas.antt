-- Legs by their numbers, in lists that are mapped or appended. Machines over machines rest on these.
use Rattle.std.specs.Prelude.{◌≡◌, ℕ, zero, suc, ◌-◌, ◌<◌, ◌≤◌, Bool, true, false, cond, List, [], ◌∷◌, ◌++◌, map, length, None, nat_lt, refl}
use Rattle.std.proofs.Common.{ap, arith}
use Rattle.std.proofs.lemmas.Bool.{cond_both}
use Rattle.std.proofs.lemmas.Option.{slice_get-map}
use Rattle.std.specs.Option.{option_map}
use Rattle.std.specs.List.{slice_get}
use Rattle.machine.specs.Legs.{Leg}
use Rattle.machine.specs.LegNumbers.{known_legs, leg_at, at_index, at_leg}

pub nth_front : {X : Type 0} (xs ys : List X) (k : ℕ) → k < length xs → slice_get (xs ++ ys) k ≡ slice_get xs k
nth_front [] ys k h = absurd (omega arith)
nth_front (x ∷ xs) ys zero h = refl
nth_front (x ∷ xs) ys (suc k) h = nth_front xs ys k (omega arith)

pub nth_back : {X : Type 0} (xs ys : List X) (k : ℕ) → length xs ≤ k → slice_get (xs ++ ys) k ≡ slice_get ys (k - length xs)
nth_back [] ys k h = ap (slice_get ys) (omega arith)
nth_back (x ∷ xs) ys zero h = absurd (omega arith)
nth_back (x ∷ xs) ys (suc k) h =
    let less : suc k - suc (length xs) ≡ k - length xs = omega arith in
    rw less (nth_back xs ys k (omega arith))

pub at_index_map : {X Y : Type 0} (h : X → Y) (f : X → X) (g : Y → Y) → ((x : X) → h (f x) ≡ g (h x)) → (k : ℕ) (xs : List X) → map h (at_index f k xs) ≡ at_index g k (map h xs)
at_index_map h f g same k [] = refl
at_index_map h f g same zero (x ∷ xs) = ap (λ y. y ∷ map h xs) (same x)
at_index_map h f g same (suc k) (x ∷ xs) = ap (λ ys. h x ∷ ys) (at_index_map h f g same k xs)

pub at_index_front : {X : Type 0} (f : X → X) (xs ys : List X) (k : ℕ) → k < length xs → at_index f k (xs ++ ys) ≡ at_index f k xs ++ ys
at_index_front f [] ys k h = absurd (omega arith)
at_index_front f (x ∷ xs) ys zero h = refl
at_index_front f (x ∷ xs) ys (suc k) h = ap (λ zs. x ∷ zs) (at_index_front f xs ys k (omega arith))

pub at_index_back : {X : Type 0} (f : X → X) (xs ys : List X) (k : ℕ) → length xs ≤ k → at_index f k (xs ++ ys) ≡ xs ++ at_index f (k - length xs) ys
at_index_back f [] ys k h = ap (λ n. at_index f n ys) (omega arith)
at_index_back f (x ∷ xs) ys zero h = absurd (omega arith)
at_index_back f (x ∷ xs) ys (suc k) h =
    let less : suc k - suc (length xs) ≡ k - length xs = omega arith in
    rw less (ap (λ zs. x ∷ zs) (at_index_back f xs ys k (omega arith)))

-- a test that chooses between two things, and what is then done to the one chosen
cond_map : {X Y : Type 0} (f : X → Y) (b : Bool) (x y : X) → f (cond b x y) ≡ cond b (f x) (f y)
cond_map f true x y = refl
cond_map f false x y = refl

pub leg_at_map : (f : Leg → Leg) (m : List Leg) (k : ℕ) → leg_at (map f m) k ≡ option_map f (leg_at m k)
leg_at_map f m k = rw (cond_map (option_map f) (nat_lt k known_legs) (slice_get m k) None, slice_get-map f m k) refl

pub at_leg_map : (h f g : Leg → Leg) → ((l : Leg) → h (f l) ≡ g (h l)) → (k : ℕ) (m : List Leg) → map h (at_leg f k m) ≡ at_leg g k (map h m)
at_leg_map h f g same k m = rw (cond_map (map h) (nat_lt k known_legs) (at_index f k m) m, at_index_map h f g same k m) refl

-- what the change of one leg keeps of every leg
pub at_index_keeps : {X Y : Type 0} (q : X → Y) (f : X → X) → ((x : X) → q (f x) ≡ q x) → (k : ℕ) (xs : List X) → map q (at_index f k xs) ≡ map q xs
at_index_keeps q f same k [] = refl
at_index_keeps q f same zero (x ∷ xs) = ap (λ y. y ∷ map q xs) (same x)
at_index_keeps q f same (suc k) (x ∷ xs) = ap (λ ys. q x ∷ ys) (at_index_keeps q f same k xs)

pub at_leg_keeps : {Y : Type 0} (q : Leg → Y) (f : Leg → Leg) → ((l : Leg) → q (f l) ≡ q l) → (k : ℕ) (m : List Leg) → map q (at_leg f k m) ≡ map q m
at_leg_keeps q f same k m =
    cond_both (nat_lt k known_legs) (at_index f k m) m (λ n. map q n ≡ map q m) (λ e. at_index_keeps q f same k m) (λ e. refl)
