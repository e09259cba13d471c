use Rattle.std.proofs.Common.{◌≤◌}
use Rattle.std.proofs.lemmas.Option.{MatchOption-at_none}
use Rattle.factory.specs.Throwing.{There}
use Rattle.acceptance.proofs.Halted.{halted_off, halted_there}
use Rattle.acceptance.proofs.throwing.throw.Goals as goal

-- what was not there before the halt is not there after it
pub returns-in_default : goal.returns-in_default
returns-in_default g c =
    let end = c.args.end in
    let limit = c.args.limit in
    let before = g.M.Machine.meaning c.move_for.new.machine in
    let after = g.M.Machine.meaning c.halt.new.self in
    let not_there = MatchOption-at_none (1 ≤ limit → There end before → ⊥) (λ tick. (1 ≤ tick) × (tick ≤ limit) × There end before) c.in_default.is c.in_ok-tick.ensures in
    (λ time there. not_there time (halted_there before after end c.halt.ensures.legs there), halted_off before after c.halt.ensures.legs)
