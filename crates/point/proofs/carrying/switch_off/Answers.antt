use Rattle.std.proofs.Common.{◌≡◌, ap, ◌∙◌, length, refl, rules, subst}
use Rattle.std.proofs.lemmas.Iterator.{YieldsList-from_range, YieldsList-from_slice, YieldsList-from_zip}
use Rattle.std.proofs.lemmas.Iterator.Consumers.{YieldsList-end}
use Rattle.point.specs.Chains.{Chain}
use Rattle.point.proofs.Linked.{numbered, numbered_all, one_more}
use Rattle.point.proofs.carrying.switch_off.Goals as goal

pub loop-leg-preserved : goal.loop-leg-preserved
loop-leg-preserved g c =
    one_more g.M.Machine.does (λ leg. (leg.0, leg.1.now)) c.loop-leg.yielded (c.in-Some.leg, c.in-Some.off) _ c.loop-leg.machine c.switch_off_if.new.machine c.loop-leg.invariant (search rules)

pub returns : goal.returns
returns g c =
    let legs = c.args.switches.legs in
    let long : length legs ≡ 5 = search rules in
    let taken =
    YieldsList-end (YieldsList-from_zip (YieldsList-from_range 0 5 5 (search rules) refl) (YieldsList-from_slice legs (search rules)))
    c.loop-leg.yielded c.loop-leg.leg-iterator c.loop-leg.yielded_by c.next.result c.next.new.self c.in-None.is c.next.ensures.steps in
    subst (λ acts. Chain g.M.Machine.does c.args.machine.now acts c.loop-leg.machine) (ap numbered taken.0 ∙ numbered_all 0 5 legs long) c.loop-leg.invariant
