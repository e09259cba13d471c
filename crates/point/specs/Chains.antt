-- What is done to a machine, action after action.
-- Chain            these actions, each by the make's own rule, lead from the one value to the other; none: the same value
-- read_result      what the machine answers to what is read first
-- word_actions     a word, if it was taken
-- read_actions     the actions of what is read first: a pass, or a word
-- off_action       a leg switched off, or not
-- off_actions      so for some legs in order, the first of which has this number
-- command_actions  what is done to all legs
-- actions_of       all that a decision commands: legs switched off, from leg 0 on, then what is done to all of them
use Rattle.std.specs.Prelude.{◌≡◌, ℕ, suc, Bool, List, [], ◌∷◌, ◌++◌, Some, None, Ok, Err, Option, Result, if◌then◌else◌}
use Rattle.legs.specs.declared.read_refusal.ReadRefusal.{ReadRefusal}
use Rattle.machine.specs.Actions.{Action, Driving, Halting, SwitchingOff, ReadingWord, Passing}
use Rattle.machine.specs.Legs.{Leg}
use Rattle.machine.specs.LegNumbers.{read_answer}
use Rattle.rules.specs.declared.deciding.Reading.{Reading}
use Rattle.rules.specs.declared.deciding.Reading.TheVariants.{Pass, Word}
use Rattle.rules.specs.declared.decision.Command.{Command}
use Rattle.rules.specs.declared.decision.Command.TheVariants.{DriveTo, HaltAll}
use Rattle.rules.specs.declared.decision.Commands.{Commands}

abbrev pub Chain : {M : Type 0} → (M → Action → M → Type 0) → M → List Action → M → Type 0
Chain does x [] y = y ≡ x
Chain {M} does x (a ∷ rest) y = (z : M) × (does x a z × Chain does z rest y)

abbrev pub read_result : Option Reading → List Leg → Result Unit ReadRefusal
read_result None m = Ok tt
read_result (Some Pass) m = Ok tt
read_result (Some (Word k w)) m = read_answer m k w

abbrev pub word_actions : ℕ → ℕ → Result Unit ReadRefusal → List Action
word_actions k w (Ok x) = ReadingWord k w ∷ []
word_actions k w (Err e) = []

abbrev pub read_actions : Option Reading → Result Unit ReadRefusal → List Action
read_actions None r = []
read_actions (Some Pass) r = Passing ∷ []
read_actions (Some (Word k w)) r = word_actions k w r

abbrev pub off_action : ℕ → Bool → List Action
off_action k off = if off then SwitchingOff k ∷ [] else []

abbrev pub off_actions : ℕ → List Bool → List Action
off_actions k [] = []
off_actions k (off ∷ rest) = off_action k off ++ off_actions (suc k) rest

abbrev pub command_actions : Option Command → List Action
command_actions None = []
command_actions (Some (DriveTo e)) = Driving e ∷ []
command_actions (Some HaltAll) = Halting ∷ []

abbrev pub actions_of : Commands → List Action
actions_of c = off_actions 0 c.off.legs ++ command_actions c.then
