-- What an end is called when people read it.
-- end_name  its letters
use Rattle.std.specs.Prelude.{ℕ, List, codes}
use Rattle.legs.specs.declared.end.End.{End}
use Rattle.legs.specs.declared.end.End.TheVariants.{Left, Right}

abbrev pub end_name : End → List ℕ
end_name Left = codes "left"
end_name Right = codes "right"
