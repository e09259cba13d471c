-- The connection to the interlocking. Each step is for one state of the connection, but the loss, which is for every one.
-- version      the version of the protocol that the point speaks
-- connected    the connection is now like this, and this is the message
-- telling      the same, and the position is told
-- step_from    the connection has to be like this for the step
-- checked      the answer to a check of the version
-- finished     the end of the report: the position is told once more if it is news
-- connect      a step, where the legs are at this position as it is reported
use Rattle.std.specs.Prelude.{ℕ, None, ◌==◌, if◌then◌else◌}
use Rattle.legs.specs.declared.position.Position.{Position}
use Rattle.records.specs.declared.message.Message.{Message}
use Rattle.records.specs.declared.message.Message.TheVariants.{Nothing, VersionMatches, VersionDiffers, StartInitialisation, InitialisationCompleted}
use Rattle.records.specs.declared.refusal.Refusal.TheVariants.{WrongConnection}
use Rattle.records.specs.declared.verdict.Verdict.TheVariants.{Plain}
use Rattle.records.specs.Messages.{position_message}
use Rattle.rules.specs.declared.connecting.Step.{Step}
use Rattle.rules.specs.declared.connecting.Step.TheVariants.{Check, Report, Finish, Lost}
use Rattle.rules.specs.declared.decision.Decision.{Decision}
use Rattle.state.specs.declared.state.Connection.{Connection}
use Rattle.state.specs.declared.state.Connection.TheVariants.{Down, Checked, Reporting, Up}
use Rattle.state.specs.declared.state.State.{State}
use Rattle.rules.specs.Decisions.{answered, refused}
use Rattle.state.specs.State.{news, same_connection, with_connection, with_told}

abbrev pub version : ℕ
version = 3

abbrev pub connected : State → Connection → Message → Decision
connected s c m = answered (with_connection c s) (Plain, m, Nothing) None

abbrev pub telling : State → Connection → Message → Position → Decision
telling s c m p = answered (with_connection c (with_told p s)) (Plain, m, position_message p) None

abbrev pub step_from : Connection → State → Decision → Decision
step_from c s d = if same_connection s.connection c then d else refused WrongConnection s

abbrev pub checked : State → ℕ → Decision
checked s v = if v == version then connected s Checked VersionMatches else connected s Down VersionDiffers

abbrev pub finished : State → Position → Decision
finished s p = if news p s.told then telling s Up InitialisationCompleted p else connected s Up InitialisationCompleted

abbrev pub connect : State → Step → Position → Decision
connect s (Check v) p = step_from Down s (checked s v)
connect s Report p = step_from Checked s (telling s Reporting StartInitialisation p)
connect s Finish p = step_from Reporting s (finished s p)
connect s Lost p = connected s Down Nothing
