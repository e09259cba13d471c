-- An order to move. It is refused unless the connection is up, then unless it names an end.
-- same_end       two ends are one if their numbers are
-- set_off        a movement to this end begins: its age is 0, and all legs are driven
-- already_there  nothing moves, and the position is told
-- move_to        the order to an end, by whether a movement is open, where the legs together show this
-- to_end         the order, if it names an end
-- order          the whole call, by its argument
use Rattle.std.specs.Prelude.{ℕ, Bool, Some, None, Option, ◌==◌, if◌then◌else◌}
use Rattle.legs.specs.declared.end.End.{End}
use Rattle.legs.specs.declared.position.Position.{Position}
use Rattle.legs.specs.Combined.{same_position}
use Rattle.legs.specs.Ends.{end_asked, end_number, position_at}
use Rattle.records.specs.declared.message.Message.TheVariants.{Nothing}
use Rattle.records.specs.declared.refusal.Refusal.TheVariants.{WrongConnection, NoSuchEnd}
use Rattle.records.specs.declared.verdict.Verdict.{Verdict}
use Rattle.records.specs.declared.verdict.Verdict.TheVariants.{AlreadyThere, Opened, AlreadyMoving, Reversed}
use Rattle.records.specs.Messages.{position_message}
use Rattle.rules.specs.declared.decision.Command.TheVariants.{DriveTo}
use Rattle.rules.specs.declared.decision.Decision.{Decision}
use Rattle.state.specs.declared.state.Movement.{Movement}
use Rattle.state.specs.declared.state.State.{State}
use Rattle.records.specs.Answers.{silent}
use Rattle.rules.specs.Decisions.{answered, refused}
use Rattle.state.specs.State.{is_up, with_movement, with_told}

abbrev pub same_end : End → End → Bool
same_end e f = end_number e == end_number f

abbrev pub set_off : State → Verdict → End → Decision
set_off s v e = answered (with_movement (Some (record { end = e; elapsed = 0 })) s) (silent v) (Some (DriveTo e))

abbrev pub already_there : State → Position → Decision
already_there s p = answered (with_told p s) (AlreadyThere, position_message p, Nothing) None

abbrev pub move_to : State → Option Movement → End → Position → Decision
move_to s None e p = if same_position p (position_at e) then already_there s p else set_off s Opened e
move_to s (Some m) e p = if same_end m.end e then answered s (silent AlreadyMoving) None else set_off s Reversed e

abbrev pub to_end : State → Option End → Position → Decision
to_end s None p = refused NoSuchEnd s
to_end s (Some e) p = move_to s s.movement e p

abbrev pub order : State → ℕ → Position → Decision
order s a p = if is_up s then to_end s (end_asked a) p else refused WrongConnection s
