-- The wired make.
-- wired_table   what each word shows, from word 0 on
-- decode_wired  what a word shows, or nothing where it is unreadable, as are all words past the table
-- new_wired     how it starts
use Rattle.std.specs.Prelude.{ℕ, List, [], ◌∷◌, Some, None, Option, slice_index_or}
use Rattle.legs.specs.declared.position.Position.{Position}
use Rattle.legs.specs.declared.position.Position.TheVariants.{Left, Right, NoEndPosition, Trailed}
use Rattle.makes.specs.declared.detected.Detected.{Detected}
use Rattle.makes.specs.declared.wired.WiredWords.{WiredWords}
use Rattle.makes.specs.Detected.{new_detected}

abbrev pub wired_table : List (Option Position)
wired_table =
    Some NoEndPosition ∷ (Some Left ∷ (Some Right ∷ (None ∷ (Some Trailed ∷ (Some Trailed ∷ (Some Trailed ∷ (Some Trailed ∷ [])))))))

abbrev pub decode_wired : ℕ → Option Position
decode_wired w = slice_index_or wired_table w None

abbrev pub new_wired : Detected WiredWords
new_wired = new_detected (record {})
