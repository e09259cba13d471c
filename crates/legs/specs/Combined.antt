-- What several legs show together.
-- same_position  the two have one letter
-- all_show       every one of the positions is this one
-- some_show      at least one of them is
-- combined       an end if every leg shows it; trailed if some leg is; else no end position. Meant for at least one leg
-- joined         the same of two positions
use Rattle.std.specs.Prelude.{Bool, true, false, ◌&&◌, ◌||◌, List, [], ◌∷◌, ◌==◌, if◌then◌else◌}
use Rattle.legs.specs.declared.position.Position.{Position}
use Rattle.legs.specs.declared.position.Position.TheVariants.{Left, Right, NoEndPosition, Trailed}
use Rattle.legs.specs.Letters.{position_letter}

abbrev pub same_position : Position → Position → Bool
same_position p q = position_letter p == position_letter q

abbrev pub all_show : Position → List Position → Bool
all_show p [] = true
all_show p (q ∷ qs) = same_position p q && all_show p qs

abbrev pub some_show : Position → List Position → Bool
some_show p [] = false
some_show p (q ∷ qs) = same_position p q || some_show p qs

abbrev pub combined : List Position → Position
combined ps =
    if all_show Left ps then Left else if all_show Right ps then Right else if some_show Trailed ps then Trailed else NoEndPosition

abbrev pub joined : Position → Position → Position
joined p q = combined (p ∷ (q ∷ []))
