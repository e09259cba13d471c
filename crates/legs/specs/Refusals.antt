-- The number of every refusal of a word.
use Rattle.std.specs.Prelude.{ℕ}
use Rattle.legs.specs.declared.read_refusal.ReadRefusal.{ReadRefusal}
use Rattle.legs.specs.declared.read_refusal.ReadRefusal.TheVariants.{MissingLeg, UnreadableWord}

abbrev pub read_refusal_number : ReadRefusal → ℕ
read_refusal_number MissingLeg = 7
read_refusal_number UnreadableWord = 8
