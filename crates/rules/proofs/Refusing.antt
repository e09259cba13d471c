-- A decision whose verdict is a refusal is that refusal and nothing else.
use Rattle.std.proofs.Common.{◌≡◌, false, Result, sym, refl, ◌∙◌}
use Rattle.std.proofs.lemmas.Bool.{false≢true}
use Rattle.legs.specs.Combined.{combined}
use Rattle.legs.specs.declared.read_refusal.ReadRefusal.{ReadRefusal}
use Rattle.records.specs.Snapshots.{shown_in}
use Rattle.records.specs.Verdicts.{is_refusal}
use Rattle.records.specs.declared.call.Call.{Call}
use Rattle.records.specs.declared.snapshot.Snapshot.{Snapshot}
use Rattle.rules.proofs.Outcomes.{every_decision}
use Rattle.rules.specs.Deciding.{decide}
use Rattle.rules.specs.Decisions.{IfRefused, answered}
use Rattle.rules.specs.Judging.{course_of, course_verdict, judge}
use Rattle.rules.specs.declared.decision.Decision.{Decision}
use Rattle.rules.specs.declared.judging.Course.{Course}
use Rattle.rules.specs.declared.judging.Course.TheVariants as course
use Rattle.state.specs.declared.state.State.{State}

pub accepted_by : (c : Course) → is_refusal (course_verdict c) ≡ false
accepted_by course.Closed = refl
accepted_by (course.Open m) = refl
accepted_by course.Arrived = refl
accepted_by course.TimedOut = refl

-- a verdict that is no refusal
accepted : (s : State) (d : Decision) → is_refusal d.answer.0 ≡ false → IfRefused s d
accepted s d no_refusal h = absurd (false≢true (sym no_refusal ∙ h))

pub refusal_only : (o : Call) (s : State) (read : Result Unit ReadRefusal) (legs : Snapshot) → IfRefused s (decide o s read legs)
refusal_only o s read legs =
    every_decision (IfRefused s) s legs (λ r h. (r, refl)) (λ t a then no_refusal. accepted s (answered t a then) no_refusal)
    (λ v ticking. accepted s (judge s v ticking legs) (accepted_by (course_of s.movement v.limit ticking (combined (shown_in legs)))))
    o read

pub refused_by : (d : Decision) (o : Call) (s : State) (read : Result Unit ReadRefusal) (legs : Snapshot) → d ≡ decide o s read legs → IfRefused s d
refused_by d o s read legs e = rw e (refusal_only o s read legs)
