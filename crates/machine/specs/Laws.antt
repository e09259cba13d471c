-- What every machine keeps.
-- Laws         it has a leg, and no action does more to its legs than the interface allows
-- FixedLegs    so no action changes how many legs there are, or which words one of them reads
use Rattle.std.specs.Prelude.{◌≡◌, ◌<◌, List, length}
use Rattle.machine.specs.Legs.{Leg, words}
use Rattle.machine.specs.Actions.{Action, Effect}

pub record Laws {M : Type 0} (meaning : M → List Leg) (does : M → Action → M → Type 0) : Type 0 where
  pub some_leg : (x : M) → 0 < length (meaning x)
  pub effect : (x : M) (a : Action) (y : M) → does x a y → Effect a (meaning x) (meaning y)

abbrev pub FixedLegs : {M : Type 0} → (M → List Leg) → (M → Action → M → Type 0) → Type 0
FixedLegs {M} meaning does =
    (x : M) (a : Action) (y : M) → does x a y → (length (meaning y) ≡ length (meaning x)) × (words (meaning y) ≡ words (meaning x))
