-- The rig of the factory test.
-- five_motors  the rig with travels 30, 40, 50, 10 and 121
use Rattle.std.specs.Prelude.{[], ◌∷◌}
use Rattle.factory.specs.Rigging.{Rigged, rig_of}

abbrev pub five_motors : Rigged
five_motors = rig_of (30 ∷ (40 ∷ (50 ∷ (10 ∷ (121 ∷ [])))))
