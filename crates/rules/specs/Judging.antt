-- What a point makes of its legs after a word or a tick.
-- aged             a movement one tick older, or over if that is its limit
-- course_of        what becomes of the movement: the arrival is looked for first, and only a tick makes it older
-- course_verdict, course_movement, course_command   the verdict, the movement and what is done to all legs, for each course
-- ends_in          the course has this verdict
-- tells            whether the position is told: only while up, if it is news or on an arrival
-- timeout_message  a timeout is told while up, in a profile that reports it
-- in_order         two messages, the first place filled before the second
-- conclude         the decision for a course, where the legs are at this position as it is reported
-- judge            the whole, for a snapshot of the legs: those that have arrived are switched off, then what the course commands
use Rattle.std.specs.Prelude.{ℕ, ◌+◌, Bool, ◌&&◌, ◌||◌, Some, None, Option, ◌==◌, nat_le, if◌then◌else◌}
use Rattle.legs.specs.declared.position.Position.{Position}
use Rattle.legs.specs.Combined.{combined, same_position}
use Rattle.legs.specs.Ends.{position_at}
use Rattle.records.specs.declared.message.Message.{Message}
use Rattle.records.specs.declared.message.Message.TheVariants.{Nothing, Timeout}
use Rattle.records.specs.declared.snapshot.Snapshot.{Snapshot}
use Rattle.records.specs.declared.verdict.Verdict.{Verdict}
use Rattle.records.specs.declared.verdict.Verdict.TheVariants as verdict
use Rattle.records.specs.Messages.{message_code, position_message}
use Rattle.records.specs.Snapshots.{shown_in}
use Rattle.records.specs.Verdicts.{same_verdict}
use Rattle.rules.specs.declared.decision.Command.{Command}
use Rattle.rules.specs.declared.decision.Command.TheVariants.{HaltAll}
use Rattle.rules.specs.declared.decision.Decision.{Decision}
use Rattle.rules.specs.declared.judging.Course.{Course}
use Rattle.rules.specs.declared.judging.Course.TheVariants.{Closed, Open, Arrived, TimedOut}
use Rattle.state.specs.declared.service.Profile.{Profile}
use Rattle.state.specs.declared.service.Profile.TheVariants.{Extended}
use Rattle.state.specs.declared.service.Service.{Service}
use Rattle.state.specs.declared.state.Movement.{Movement}
use Rattle.state.specs.declared.state.State.{State}
use Rattle.rules.specs.declared.switches.Switches.{Switches}
use Rattle.state.specs.Service.{profile_number, reported}
use Rattle.state.specs.State.{is_up, news}
use Rattle.rules.specs.Switches.{legs_arrived}

abbrev pub aged : Movement → ℕ → Course
aged m limit = if nat_le limit (m.elapsed + 1) then TimedOut else Open (record m { elapsed = m.elapsed + 1 })

abbrev pub course_of : Option Movement → ℕ → Bool → Position → Course
course_of None limit ticking p = Closed
course_of (Some m) limit ticking p = if same_position p (position_at m.end) then Arrived else if ticking then aged m limit else Open m

abbrev pub course_verdict : Course → Verdict
course_verdict Closed = verdict.Plain
course_verdict (Open m) = verdict.Plain
course_verdict Arrived = verdict.Arrived
course_verdict TimedOut = verdict.TimedOut

abbrev pub course_movement : Course → Option Movement
course_movement Closed = None
course_movement (Open m) = Some m
course_movement Arrived = None
course_movement TimedOut = None

abbrev pub course_command : Course → Option Command
course_command Closed = None
course_command (Open m) = None
course_command Arrived = None
course_command TimedOut = Some HaltAll

abbrev pub ends_in : Verdict → Course → Bool
ends_in v c = same_verdict (course_verdict c) v

abbrev pub tells : State → Course → Position → Bool
tells s c p = is_up s && (news p s.told || ends_in verdict.Arrived c)

abbrev pub timeout_message : Course → Profile → Bool → Message
timeout_message c f up = if ends_in verdict.TimedOut c && (up && profile_number f == profile_number Extended) then Timeout else Nothing

abbrev pub in_order : Message → Message → Message × Message
in_order first second = if message_code first == message_code Nothing then (second, Nothing) else (first, second)

abbrev pub conclude : State → Profile → Course → Position → Switches → Decision
conclude s f c p off =
    let messages = in_order (if tells s c p then position_message p else Nothing) (timeout_message c f (is_up s)) in
    record {
      state = record s { told = if tells s c p then Some p else s.told; movement = course_movement c };
      answer = (course_verdict c, messages.0, messages.1);
      commands = record { off = off; then = course_command c };
    }

abbrev pub judge : State → Service → Bool → Snapshot → Decision
judge s v ticking legs =
    let together = combined (shown_in legs) in
    conclude s v.profile (course_of s.movement v.limit ticking together) (reported v.profile together) (legs_arrived legs)
