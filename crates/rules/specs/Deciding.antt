-- What a point reads first on a call, and what it decides then.
-- reading_in   what a call has the machine read first, in service
-- reading_by   the same, by whether there is a service; out of service nothing
-- reading_for  the same of a state
-- position_of  what the legs show together, as it is reported
-- sensed       a word: judged if the machine took it, else refused
-- decide_in    each call in service, where `read` is what the machine answered and `legs` are its legs after that
-- decide_out   out of service only the start is taken
-- decide_by    the decision on a call, by whether there is a service
-- decide       the same of a state
use Rattle.std.specs.Prelude.{true, false, Some, None, Ok, Err, Option, Result, if◌then◌else◌}
use Rattle.legs.specs.declared.position.Position.{Position}
use Rattle.legs.specs.declared.read_refusal.ReadRefusal.{ReadRefusal}
use Rattle.legs.specs.Combined.{combined}
use Rattle.records.specs.declared.call.Call.{Call}
use Rattle.records.specs.declared.call.CallKind.{CallKind}
use Rattle.records.specs.declared.call.CallKind.TheVariants.{StartService, CheckVersion, ReportStatus, FinishReport, LoseConnection, MovePoint, Sense, Tick}
use Rattle.records.specs.declared.refusal.Refusal.TheVariants.{OutOfService, AlreadyInService}
use Rattle.records.specs.declared.snapshot.Snapshot.{Snapshot}
use Rattle.records.specs.Calls.{same_kind}
use Rattle.records.specs.Refusals.{read_refused}
use Rattle.records.specs.Snapshots.{shown_in}
use Rattle.rules.specs.declared.connecting.Step.TheVariants.{Check, Report, Finish, Lost}
use Rattle.rules.specs.declared.deciding.Reading.{Reading}
use Rattle.rules.specs.declared.deciding.Reading.TheVariants.{Pass, Word}
use Rattle.rules.specs.declared.decision.Decision.{Decision}
use Rattle.state.specs.declared.service.Service.{Service}
use Rattle.state.specs.declared.state.State.{State}
use Rattle.rules.specs.Connecting.{connect}
use Rattle.rules.specs.Decisions.{refused}
use Rattle.rules.specs.Judging.{judge}
use Rattle.rules.specs.Moving.{order}
use Rattle.state.specs.Service.{reported}
use Rattle.rules.specs.Starting.{start}

abbrev pub reading_in : Call → Option Reading
reading_in o = if same_kind o.kind Sense then Some (Word o.a o.b) else if same_kind o.kind Tick then Some Pass else None

abbrev pub reading_by : Option Service → Call → Option Reading
reading_by None o = None
reading_by (Some v) o = reading_in o

abbrev pub reading_for : State → Call → Option Reading
reading_for s o = reading_by s.service o

abbrev pub position_of : Service → Snapshot → Position
position_of v legs = reported v.profile (combined (shown_in legs))

abbrev pub sensed : Result Unit ReadRefusal → Service → State → Snapshot → Decision
sensed (Ok x) v s legs = judge s v false legs
sensed (Err e) v s legs = refused (read_refused e) s

abbrev pub decide_in : CallKind → Service → Call → State → Result Unit ReadRefusal → Snapshot → Decision
decide_in StartService v o s read legs = refused AlreadyInService s
decide_in CheckVersion v o s read legs = connect s (Check o.a) (position_of v legs)
decide_in ReportStatus v o s read legs = connect s Report (position_of v legs)
decide_in FinishReport v o s read legs = connect s Finish (position_of v legs)
decide_in LoseConnection v o s read legs = connect s Lost (position_of v legs)
decide_in MovePoint v o s read legs = order s o.a (combined (shown_in legs))
decide_in Sense v o s read legs = sensed read v s legs
decide_in Tick v o s read legs = judge s v true legs

abbrev pub decide_out : Call → State → Snapshot → Decision
decide_out o s legs = if same_kind o.kind StartService then start s o.a o.b legs.more else refused OutOfService s

abbrev pub decide_by : Option Service → Call → State → Result Unit ReadRefusal → Snapshot → Decision
decide_by None o s read legs = decide_out o s legs
decide_by (Some v) o s read legs = decide_in o.kind v o s read legs

abbrev pub decide : Call → State → Result Unit ReadRefusal → Snapshot → Decision
decide o s read legs = decide_by s.service o s read legs
