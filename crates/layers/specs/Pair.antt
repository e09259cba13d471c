-- Two machines as one.
-- pair       the two
-- pair_legs  its legs: those of the first, then those of the second
-- part_of    which part has a leg, and its number there, by the count of the first; none has a missing leg
-- OnePart    an action on one leg is one on the part that has it, and the other part's value stays; nothing for a missing leg
-- BothParts  an action on all legs is one on both parts
-- pair_does  its own rule, by these two
use Rattle.std.specs.Prelude.{◌≡◌, ℕ, ◌-◌, List, ◌++◌, Some, None, Option, nat_lt, if◌then◌else◌}
use Rattle.machine.specs.Actions.{Action, Driving, Halting, SwitchingOff, ReadingWord, Passing}
use Rattle.machine.specs.Legs.{Leg}
use Rattle.machine.specs.LegNumbers.{count_of, known_legs}
use Rattle.layers.specs.declared.pair.Pair.{Pair}
use Rattle.layers.specs.declared.pair.Part.{Part}
use Rattle.layers.specs.declared.pair.Part.TheVariants.{First, Second}

abbrev pub pair : {M N : Type 0} → M → N → Pair M N
pair m n = record { first = m; second = n }

abbrev pub pair_legs : {M N : Type 0} → (M → List Leg) → (N → List Leg) → Pair M N → List Leg
pair_legs meaning₁ meaning₂ x = meaning₁ x.first ++ meaning₂ x.second

abbrev pub part_of : ℕ → ℕ → Option Part
part_of first k = if nat_lt k known_legs then Some (if nat_lt k first then First k else Second (k - first)) else None

abbrev pub OnePart : {M N : Type 0} → (M → Action → M → Type 0) → (N → Action → N → Type 0) → Option Part → (ℕ → Action) → Pair M N → Pair M N → Type 0
OnePart does₁ does₂ (Some (First k)) act x y = does₁ x.first (act k) y.first × (y.second ≡ x.second)
OnePart does₁ does₂ (Some (Second k)) act x y = does₂ x.second (act k) y.second × (y.first ≡ x.first)
OnePart does₁ does₂ None act x y = y ≡ x

abbrev pub BothParts : {M N : Type 0} → (M → Action → M → Type 0) → (N → Action → N → Type 0) → Action → Pair M N → Pair M N → Type 0
BothParts does₁ does₂ a x y = does₁ x.first a y.first × does₂ x.second a y.second

abbrev pub pair_does : {M N : Type 0} → (M → List Leg) → (M → Action → M → Type 0) → (N → Action → N → Type 0) → Pair M N → Action → Pair M N → Type 0
pair_does meaning₁ does₁ does₂ x (Driving e) y = BothParts does₁ does₂ (Driving e) x y
pair_does meaning₁ does₁ does₂ x Halting y = BothParts does₁ does₂ Halting x y
pair_does meaning₁ does₁ does₂ x (SwitchingOff k) y = OnePart does₁ does₂ (part_of (count_of (meaning₁ x.first)) k) SwitchingOff x y
pair_does meaning₁ does₁ does₂ x (ReadingWord k w) y = OnePart does₁ does₂ (part_of (count_of (meaning₁ x.first)) k) (λ j. ReadingWord j w) x y
pair_does meaning₁ does₁ does₂ x Passing y = BothParts does₁ does₂ Passing x y
