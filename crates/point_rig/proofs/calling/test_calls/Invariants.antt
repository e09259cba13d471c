use Rattle.std.proofs.Common.{◌≡◌, ◌++◌, drop, vec_items}
use Rattle.point_rig.specs.Calling.{all_calls, test_list, test_plan}
use Rattle.point_rig.proofs.calling.test_calls.Given as goal

-- the calls so far, and those to come
abbrev pub invariant-loop-kind : goal.invariant-loop-kind
invariant-loop-kind l = test_list ≡ vec_items l.calls ++ all_calls (drop l.kind-index test_plan)
