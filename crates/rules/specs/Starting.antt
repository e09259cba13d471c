-- The start of service, for a point that is out of service: too many legs are refused first, then settings that cannot be used.
-- started  with the service that was asked for, if it can be used
-- start    the whole call, by its arguments
use Rattle.std.specs.Prelude.{ℕ, Bool, Some, None, Option, if◌then◌else◌}
use Rattle.records.specs.declared.refusal.Refusal.TheVariants.{TooManyLegs, UnusableSettings}
use Rattle.records.specs.declared.verdict.Verdict.TheVariants.{Plain}
use Rattle.rules.specs.declared.decision.Command.TheVariants.{HaltAll}
use Rattle.rules.specs.declared.decision.Decision.{Decision}
use Rattle.state.specs.declared.service.Service.{Service}
use Rattle.state.specs.declared.state.State.{State}
use Rattle.records.specs.Answers.{silent}
use Rattle.rules.specs.Decisions.{answered, refused}
use Rattle.state.specs.Service.{service_asked}
use Rattle.state.specs.State.{with_service}

abbrev pub started : Option Service → State → Decision
started None s = refused UnusableSettings s
started (Some v) s = answered (with_service v s) (silent Plain) (Some HaltAll)

abbrev pub start : State → ℕ → ℕ → Bool → Decision
start s a b more = if more then refused TooManyLegs s else started (service_asked a b) s
