-- What comes out of a decision.
-- answered    this state and answer, and this done to all legs; no leg is switched off by itself
-- refused     the state as it was, the refusal alone as the answer, and nothing done
-- decided     a decision, or the refusal in its place
-- IfRefused   where the verdict is a refusal, the decision is that refusal and nothing else
use Rattle.std.specs.Prelude.{◌≡◌, true, None, Ok, Err, Option, Result}
use Rattle.records.specs.Answers.{Answer, silent}
use Rattle.records.specs.Verdicts.{is_refusal}
use Rattle.records.specs.declared.refusal.Refusal.{Refusal}
use Rattle.records.specs.declared.verdict.Verdict.TheVariants.{Refused}
use Rattle.rules.specs.declared.decision.Command.{Command}
use Rattle.rules.specs.declared.decision.Decision.{Decision}
use Rattle.state.specs.declared.state.State.{State}
use Rattle.rules.specs.Switches.{no_leg}

abbrev pub answered : State → Answer → Option Command → Decision
answered s a then = record { state = s; answer = a; commands = record { off = no_leg; then = then } }

abbrev pub refused : Refusal → State → Decision
refused r s = answered s (silent (Refused r)) None

abbrev pub decided : State → Result Decision Refusal → Decision
decided s (Ok d) = d
decided s (Err r) = refused r s

abbrev pub IfRefused : State → Decision → Type 0
IfRefused s d = is_refusal d.answer.0 ≡ true → (r : Refusal) × (d ≡ refused r s)
