-- The coded make.
-- code_word     the word that carries a code: the code in the high byte, what it lacks of 255 in the low one
-- code_table    what each code shows, from code 0 on
-- decode_from   what a word shows, if it carries one of these codes, the first of which has this number
-- decode_coded  what a word shows, or nothing where it is unreadable
-- new_coded     how it starts
use Rattle.std.specs.Prelude.{ℕ, ◌+◌, ◌-◌, ◌*◌, List, [], ◌∷◌, Some, None, Option, ◌==◌, if◌then◌else◌}
use Rattle.legs.specs.declared.position.Position.{Position}
use Rattle.legs.specs.declared.position.Position.TheVariants.{Left, Right, NoEndPosition, Trailed}
use Rattle.makes.specs.declared.coded.CodedWords.{CodedWords}
use Rattle.makes.specs.declared.detected.Detected.{Detected}
use Rattle.makes.specs.Detected.{new_detected}

abbrev pub code_word : ℕ → ℕ
code_word c = 256 * c + (255 - c)

abbrev pub code_table : List Position
code_table = NoEndPosition ∷ (Left ∷ (Right ∷ (Trailed ∷ [])))

abbrev pub decode_from : ℕ → List Position → ℕ → Option Position
decode_from c [] w = None
decode_from c (p ∷ ps) w = if w == code_word c then Some p else decode_from (c + 1) ps w

abbrev pub decode_coded : ℕ → Option Position
decode_coded w = decode_from 0 code_table w

abbrev pub new_coded : Detected CodedWords
new_coded = new_detected (record {})
