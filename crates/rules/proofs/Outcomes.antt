-- What holds of every refusal, of every accepted answer without switches, and of judging, holds of every decision.
use Rattle.std.proofs.Common.{◌≡◌, refl, ℕ, Bool, true, false, eqb, Some, None, Ok, Err, Option, Result}
use Rattle.std.proofs.lemmas.Bool.{cond_both}
use Rattle.legs.specs.Combined.{combined, same_position}
use Rattle.legs.specs.Ends.{end_asked, position_at}
use Rattle.legs.specs.declared.end.End.{End}
use Rattle.legs.specs.declared.position.Position.{Position}
use Rattle.legs.specs.declared.read_refusal.ReadRefusal.{ReadRefusal}
use Rattle.records.specs.Answers.{Answer, silent}
use Rattle.records.specs.Calls.{same_kind}
use Rattle.records.specs.Snapshots.{shown_in}
use Rattle.records.specs.declared.call.Call.{Call}
use Rattle.records.specs.declared.call.CallKind.{CallKind}
use Rattle.records.specs.declared.call.CallKind.TheVariants.{StartService, CheckVersion, ReportStatus, FinishReport, LoseConnection, MovePoint, Sense, Tick}
use Rattle.records.specs.declared.message.Message.TheVariants.{InitialisationCompleted, StartInitialisation, VersionDiffers, VersionMatches}
use Rattle.records.specs.Verdicts.{is_refusal}
use Rattle.records.specs.declared.refusal.Refusal.{Refusal}
use Rattle.records.specs.declared.refusal.Refusal.TheVariants.{OutOfService, WrongConnection}
use Rattle.records.specs.declared.snapshot.Snapshot.{Snapshot}
use Rattle.records.specs.declared.verdict.Verdict.TheVariants.{AlreadyMoving, Opened, Reversed}
use Rattle.rules.specs.Connecting.{checked, connect, connected, finished, telling, version}
use Rattle.rules.specs.Deciding.{decide, decide_by, decide_in, position_of, sensed}
use Rattle.rules.specs.Decisions.{answered, refused}
use Rattle.rules.specs.Judging.{judge}
use Rattle.rules.specs.Moving.{already_there, move_to, order, same_end, set_off, to_end}
use Rattle.rules.specs.Starting.{start, started}
use Rattle.rules.specs.declared.connecting.Step.{Step}
use Rattle.rules.specs.declared.connecting.Step.TheVariants.{Check, Finish, Lost, Report}
use Rattle.rules.specs.declared.decision.Command.{Command}
use Rattle.rules.specs.declared.decision.Decision.{Decision}
use Rattle.state.specs.Service.{service_asked}
use Rattle.state.specs.State.{is_up, news, same_connection}
use Rattle.state.specs.declared.service.Service.{Service}
use Rattle.state.specs.declared.state.Connection.TheVariants.{Checked, Down, Reporting, Up}
use Rattle.state.specs.declared.state.Movement.{Movement}
use Rattle.state.specs.declared.state.State.{State}

module _ (P : Decision → Type 0) (s : State) (legs : Snapshot)
    (refusing : (r : Refusal) → P (refused r s))
    (accepting : (t : State) (a : Answer) (then : Option Command) → is_refusal a.0 ≡ false → P (answered t a then))
    (judging : (v : Service) (ticking : Bool) → P (judge s v ticking legs)) where
  by_service : (v : Option Service) → P (started v s)
  by_service None = refusing _
  by_service (Some v) = accepting _ _ _ refl

  by_start : (a b : ℕ) (more : Bool) → P (start s a b more)
  by_start a b true = refusing _
  by_start a b false = by_service (service_asked a b)

  by_step : (step : Step) (p : Position) → P (connect s step p)
  by_step (Check v) p =
      cond_both (same_connection s.connection Down) (checked s v) (refused WrongConnection s) P
      (λ _. cond_both (eqb v version) (connected s Checked VersionMatches) (connected s Down VersionDiffers) P (λ _. accepting _ _ _ refl) (λ _. accepting _ _ _ refl))
      (λ _. refusing _)
  by_step Report p =
      cond_both (same_connection s.connection Checked) (telling s Reporting StartInitialisation p) (refused WrongConnection s) P (λ _. accepting _ _ _ refl) (λ _. refusing _)
  by_step Finish p =
      cond_both (same_connection s.connection Reporting) (finished s p) (refused WrongConnection s) P
      (λ _. cond_both (news p s.told) (telling s Up InitialisationCompleted p) (connected s Up InitialisationCompleted) P (λ _. accepting _ _ _ refl) (λ _. accepting _ _ _ refl))
      (λ _. refusing _)
  by_step Lost p = accepting _ _ _ refl

  by_movement : (m : Option Movement) (e : End) (p : Position) → P (move_to s m e p)
  by_movement None e p =
      cond_both (same_position p (position_at e)) (already_there s p) (set_off s Opened e) P (λ _. accepting _ _ _ refl) (λ _. accepting _ _ _ refl)
  by_movement (Some m) e p =
      cond_both (same_end m.end e) (answered s (silent AlreadyMoving) None) (set_off s Reversed e) P (λ _. accepting _ _ _ refl) (λ _. accepting _ _ _ refl)

  by_end : (e : Option End) (p : Position) → P (to_end s e p)
  by_end None p = refusing _
  by_end (Some e) p = by_movement s.movement e p

  by_order : (a : ℕ) (p : Position) → P (order s a p)
  by_order a p = cond_both (is_up s) (to_end s (end_asked a) p) (refused WrongConnection s) P (λ _. by_end (end_asked a) p) (λ _. refusing _)

  by_reading : (read : Result Unit ReadRefusal) (v : Service) → P (sensed read v s legs)
  by_reading (Ok x) v = judging v false
  by_reading (Err e) v = refusing _

  by_kind : (k : CallKind) (v : Service) (o : Call) (read : Result Unit ReadRefusal) → P (decide_in k v o s read legs)
  by_kind StartService v o read = refusing _
  by_kind CheckVersion v o read = by_step (Check o.a) (position_of v legs)
  by_kind ReportStatus v o read = by_step Report (position_of v legs)
  by_kind FinishReport v o read = by_step Finish (position_of v legs)
  by_kind LoseConnection v o read = by_step Lost (position_of v legs)
  by_kind MovePoint v o read = by_order o.a (combined (shown_in legs))
  by_kind Sense v o read = by_reading read v
  by_kind Tick v o read = judging v true

  in_or_out : (v : Option Service) (o : Call) (read : Result Unit ReadRefusal) → P (decide_by v o s read legs)
  in_or_out None o read =
      cond_both (same_kind o.kind StartService) (start s o.a o.b legs.more) (refused OutOfService s) P (λ _. by_start o.a o.b legs.more) (λ _. refusing _)
  in_or_out (Some v) o read = by_kind o.kind v o read

  pub every_decision : (o : Call) (read : Result Unit ReadRefusal) → P (decide o s read legs)
  every_decision o read = in_or_out s.service o read
