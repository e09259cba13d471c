-- Legs of two lists in a row, by the part that has them; and that a pair keeps the laws.
use Rattle.std.specs.Prelude.{◌≡◌, ℕ, ◌+◌, ◌-◌, ◌<◌, ◌≤◌, min, List, ◌++◌, map, length, Some, None, Option, refl}
use Rattle.std.proofs.Common.{⊎_elim, sym, ap, ap₂, ◌∙◌, arith, length-append}
use Rattle.std.proofs.lemmas.List.{map-append}
use Rattle.std.proofs.lemmas.Bool.{cases_lt, lt-ltb, le-ltb}
use Rattle.legs.specs.declared.drive.Drive.TheVariants.{Off}
use Rattle.machine.specs.Actions.{Action, Driving, Halting, SwitchingOff, ReadingWord, Passing, Effect, drive_leg}
use Rattle.machine.specs.Laws.{Laws}
use Rattle.machine.specs.Legs.{Leg, with_position, with_drive, frame}
use Rattle.machine.specs.LegNumbers.{count_of, known_legs, leg_at, at_leg}
use Rattle.machine.specs.LegNumbersLemmas.{nth_front, nth_back, at_index_front, at_index_back}
use Rattle.legs.specs.declared.position.Position.{Position}
use Rattle.legs.specs.declared.position.Position.TheVariants.{NoEndPosition}
use Rattle.layers.specs.declared.pair.Pair.{Pair}
use Rattle.layers.specs.declared.pair.Part.{Part}
use Rattle.layers.specs.declared.pair.Part.TheVariants.{First, Second}
use Rattle.layers.specs.Pair.{pair_legs, part_of, OnePart, pair_does}

-- the leg of a part, and a change of it
abbrev pub leg_in : Option Part → List Leg → List Leg → Option Leg
leg_in (Some (First k)) m n = leg_at m k
leg_in (Some (Second k)) m n = leg_at n k
leg_in None m n = None

abbrev pub change_in : (Leg → Leg) → Option Part → List Leg → List Leg → List Leg
change_in f (Some (First k)) m n = at_leg f k m ++ n
change_in f (Some (Second k)) m n = m ++ at_leg f k n
change_in f None m n = m ++ n

pub data Where (m : List Leg) (k : ℕ) : Type 0 where
  missing : known_legs ≤ k → Where m k
  in_front : k < known_legs → k < length m → Where m k
  behind : k < known_legs → length m ≤ k → Where m k

pub where_is : (m : List Leg) (k : ℕ) → Where m k
where_is m k = ⊎_elim (λ known. ⊎_elim (in_front known) (behind known) (cases_lt k (length m))) missing (cases_lt k known_legs)

pub part_missing : (m : List Leg) (k : ℕ) → known_legs ≤ k → part_of (count_of m) k ≡ None
part_missing m k h = rw (le-ltb k known_legs h) refl

pub part_front : (m : List Leg) (k : ℕ) → k < known_legs → k < length m → part_of (count_of m) k ≡ Some (First k)
part_front m k h i = let below : k < count_of m = omega arith in rw (lt-ltb k known_legs h, lt-ltb k (count_of m) below) refl

pub part_behind : (m : List Leg) (k : ℕ) → k < known_legs → length m ≤ k → part_of (count_of m) k ≡ Some (Second (k - length m))
part_behind m k h i =
    let above : count_of m ≤ k = omega arith in
    let all : k - count_of m ≡ k - length m = omega arith in
    rw (lt-ltb k known_legs h, le-ltb k (count_of m) above) (ap (λ j. Some (Second j)) all)

pub leg_by_part : (m n : List Leg) (k : ℕ) → leg_at (m ++ n) k ≡ leg_in (part_of (count_of m) k) m n
leg_by_part m n k =
    elim (where_is m k) [
      | missing h ↦ rw (part_missing m k h, le-ltb k known_legs h) refl
      | in_front h i ↦ rw (part_front m k h i, lt-ltb k known_legs h) (nth_front m n k i)
      | behind h i ↦
          let near : k - length m < known_legs = omega arith in
          rw (part_behind m k h i, lt-ltb k known_legs h, lt-ltb (k - length m) known_legs near) (nth_back m n k i)
    ]

pub change_by_part : (f : Leg → Leg) (m n : List Leg) (k : ℕ) → at_leg f k (m ++ n) ≡ change_in f (part_of (count_of m) k) m n
change_by_part f m n k =
    elim (where_is m k) [
      | missing h ↦ rw (part_missing m k h, le-ltb k known_legs h) refl
      | in_front h i ↦ rw (part_front m k h i, lt-ltb k known_legs h) (at_index_front f m n k i)
      | behind h i ↦
          let near : k - length m < known_legs = omega arith in
          rw (part_behind m k h i, lt-ltb k known_legs h, lt-ltb (k - length m) known_legs near) (at_index_back f m n k i)
    ]

-- the legs of both, counted
pub count_both : (m n : List Leg) → min (count_of m + count_of n) 6 ≡ count_of (m ++ n)
count_both m n = rw length-append (omega arith)

module _ {M N : Type 0} {meaning₁ : M → List Leg} {meaning₂ : N → List Leg} {does₁ : M → Action → M → Type 0} {does₂ : N → Action → N → Type 0}
    (kept₁ : Laws meaning₁ does₁) (kept₂ : Laws meaning₂ does₂) where
  abbrev legs : Pair M N → List Leg
  legs x = pair_legs meaning₁ meaning₂ x

  pub off_in : (p : Option Part) (x y : Pair M N) → OnePart does₁ does₂ p SwitchingOff x y → legs y ≡ change_in (with_drive Off) p (meaning₁ x.first) (meaning₂ x.second)
  off_in (Some (First k)) x y h = ap₂ ◌++◌ (kept₁.effect x.first (SwitchingOff k) y.first h.0) (ap meaning₂ h.1)
  off_in (Some (Second k)) x y h = ap₂ ◌++◌ (ap meaning₁ h.1) (kept₂.effect x.second (SwitchingOff k) y.second h.0)
  off_in None x y h = ap legs h

  pub read_in : (p : Option Part) (w : ℕ) (x y : Pair M N) → OnePart does₁ does₂ p (λ k. ReadingWord k w) x y → (v : Position) × (legs y ≡ change_in (with_position v) p (meaning₁ x.first) (meaning₂ x.second))
  read_in (Some (First k)) w x y h =
      let after = kept₁.effect x.first (ReadingWord k w) y.first h.0 in
      (after.0, ap₂ ◌++◌ after.1 (ap meaning₂ h.1))
  read_in (Some (Second k)) w x y h =
      let after = kept₂.effect x.second (ReadingWord k w) y.second h.0 in
      (after.0, ap₂ ◌++◌ (ap meaning₁ h.1) after.1)
  read_in None w x y h = (NoEndPosition, ap legs h)

  -- what is done to every leg of both parts is done to every leg of the pair
  all_legs : (f : Leg → Leg) (x y : Pair M N) → meaning₁ y.first ≡ map f (meaning₁ x.first) → meaning₂ y.second ≡ map f (meaning₂ x.second) → legs y ≡ map f (legs x)
  all_legs f x y h i = ap₂ ◌++◌ h i ∙ sym (map-append f (meaning₁ x.first) (meaning₂ x.second))

  pub pair_effect : (x : Pair M N) (a : Action) (y : Pair M N) → pair_does meaning₁ does₁ does₂ x a y → Effect a (legs x) (legs y)
  pair_effect x (Driving e) y h = all_legs (drive_leg e) x y (kept₁.effect x.first (Driving e) y.first h.0) (kept₂.effect x.second (Driving e) y.second h.1)
  pair_effect x Halting y h = all_legs (with_drive Off) x y (kept₁.effect x.first Halting y.first h.0) (kept₂.effect x.second Halting y.second h.1)
  pair_effect x (SwitchingOff k) y h =
      off_in (part_of (count_of (meaning₁ x.first)) k) x y h ∙ sym (change_by_part (with_drive Off) (meaning₁ x.first) (meaning₂ x.second) k)
  pair_effect x (ReadingWord k w) y h =
      let after = read_in (part_of (count_of (meaning₁ x.first)) k) w x y h in
      (after.0, after.1 ∙ sym (change_by_part (with_position after.0) (meaning₁ x.first) (meaning₂ x.second) k))
  pair_effect x Passing y h =
      map-append frame (meaning₁ y.first) (meaning₂ y.second)
      ∙ ap₂ ◌++◌ (kept₁.effect x.first Passing y.first h.0) (kept₂.effect x.second Passing y.second h.1)
      ∙ sym (map-append frame (meaning₁ x.first) (meaning₂ x.second))

  pub pair_laws : Laws (pair_legs meaning₁ meaning₂) (pair_does meaning₁ does₁ does₂)
  pair_laws = record {
    some_leg = λ x. let some : 0 < length (meaning₁ x.first) = kept₁.some_leg x.first in rw length-append (omega arith);
    effect = pair_effect;
  }
