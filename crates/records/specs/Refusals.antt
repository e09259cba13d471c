-- The number of every refusal of a call.
-- refusal_number  the number
-- read_refused    the refusal of a call whose word the machine did not take
use Rattle.std.specs.Prelude.{ℕ}
use Rattle.legs.specs.declared.read_refusal.ReadRefusal.{ReadRefusal}
use Rattle.legs.specs.declared.read_refusal.ReadRefusal.TheVariants as read
use Rattle.records.specs.declared.refusal.Refusal.{Refusal}
use Rattle.records.specs.declared.refusal.Refusal.TheVariants.{OutOfService, AlreadyInService, TooManyLegs, UnusableSettings, WrongConnection, NoSuchEnd, MissingLeg, UnreadableWord}

abbrev pub refusal_number : Refusal → ℕ
refusal_number OutOfService = 1
refusal_number AlreadyInService = 2
refusal_number TooManyLegs = 3
refusal_number UnusableSettings = 4
refusal_number WrongConnection = 5
refusal_number NoSuchEnd = 6
refusal_number MissingLeg = 7
refusal_number UnreadableWord = 8

abbrev pub read_refused : ReadRefusal → Refusal
read_refused read.MissingLeg = MissingLeg
read_refused read.UnreadableWord = UnreadableWord
