use Rattle.std.proofs.Common.{◌≡◌, ◌<◌, List, ◌++◌, ◌∙◌, ap₂, length, replicate, vec_items, arith, rules}
use Rattle.std.proofs.lemmas.Iterator.Adapters.{YieldsList-from_repeat_n, items_from_extend}
use Rattle.point_rig.proofs.Steps.{one_more_stretch}
use Rattle.point_rig.proofs.calling.test_calls.Goals as goal
use Rattle.point_rig.specs.Calling.{test_list, test_plan}
use Rattle.records.specs.declared.call.Call.{Call}
use Rattle.records.specs.declared.call.CallKind.TheVariants.{StartService}

pub loop-kind-preserved : goal.loop-kind-preserved
loop-kind-preserved c =
    let i = c.loop-kind.kind-index in
    let within : i < length test_plan = omega arith in
    let before : List Call = vec_items c.loop-kind.calls in
    let after : List Call = vec_items c.extend.new.self in
    let grown =
    items_from_extend c.extend.result c.extend.ensures.ran (YieldsList-from_repeat_n (λ x y. y ≡ x) c.from.result c.new.result c.repeat_n.ensures.count c.repeat_n.ensures.item (λ y k. k)) in
    let added : after ≡ before ++ replicate c.from.result c.new.result = search rules in
    one_more_stretch test_list before after test_plan i (StartService, 0, 0, 0) within c.loop-kind.invariant
    (added ∙ ap₂ (λ n x. before ++ replicate n x) (search rules) (search rules))
