use Rattle.std.proofs.Common.{map}
use Rattle.point.specs.Chains.{Chain}
use Rattle.point.proofs.Linked.{numbered}
use Rattle.point.proofs.carrying.switch_off.Given as goal

abbrev pub invariant-loop-leg : goal.invariant-loop-leg
invariant-loop-leg g l = Chain g.M.Machine.does l.initial.machine (numbered (map (λ leg. (leg.0, leg.1.now)) l.yielded)) l.machine
