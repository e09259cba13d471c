-- The rig of the factory test.
-- Rigged       its type
-- rig_of       five models with the travels of this list, the second one crossed
-- five_motors  the rig with travels 3, 4, 5, 1 and 6
use Rattle.std.specs.Prelude.{ℕ, List, [], ◌∷◌, slice_index}
use Rattle.layers.specs.declared.crossed.Crossed.{Crossed}
use Rattle.layers.specs.declared.pair.Pair.{Pair}
use Rattle.layers.specs.Crossed.{crossed}
use Rattle.layers.specs.Pair.{pair}
use Rattle.makes.specs.declared.model.Model.{Model}
use Rattle.makes.specs.Model.{new_model}

abbrev pub Rigged : Type 0
Rigged = Pair (Pair Model (Pair (Crossed Model) Model)) (Pair Model Model)

abbrev pub rig_of : List ℕ → Rigged
rig_of travels =
    let leg : ℕ → Model = λ k. new_model (slice_index travels k) in
    pair (pair (leg 0) (pair (crossed (leg 1)) (leg 2))) (pair (leg 3) (leg 4))

abbrev pub five_motors : Rigged
five_motors = rig_of (3 ∷ (4 ∷ (5 ∷ (1 ∷ (6 ∷ [])))))
