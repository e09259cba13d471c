-- The calls of the factory test.
-- Stretch        a call with its two arguments, and how many times in a row it is made
-- stretch_calls  those calls
-- all_calls      the calls of some stretches, in order
-- set_up         service with a limit of 120 ticks in profile 1, connection, and leg 1 put over
-- plain_throw    leg 4 at place 61, and all legs to the right for 60 ticks
-- reversed_throw leg 4 at place 119, and all legs to the right for so many ticks, then to the left for 120
-- test_plan      all of these; the reversal comes after one tick, and then after two
-- test_list      the calls of the test
use Rattle.std.specs.Prelude.{ℕ, List, [], ◌∷◌, ◌++◌, replicate}
use Rattle.records.specs.Calls.{call_of}
use Rattle.records.specs.declared.call.Call.{Call}
use Rattle.records.specs.declared.call.CallKind.{CallKind}
use Rattle.records.specs.declared.call.CallKind.TheVariants.{StartService, CheckVersion, ReportStatus, FinishReport, MovePoint, Sense, Tick}

abbrev pub Stretch : Type 0
Stretch = CallKind × ℕ × ℕ × ℕ

abbrev pub stretch_calls : Stretch → List Call
stretch_calls x = replicate x.3 (call_of x.0 x.1 x.2)

abbrev pub all_calls : List Stretch → List Call
all_calls [] = []
all_calls (x ∷ xs) = stretch_calls x ++ all_calls xs

abbrev pub set_up : List Stretch
set_up =
    (StartService, 120, 1, 1)
    ∷ ((CheckVersion, 3, 0, 1) ∷ ((ReportStatus, 0, 0, 1) ∷ ((FinishReport, 0, 0, 1) ∷ ((Sense, 1, 40, 1) ∷ []))))

abbrev pub plain_throw : List Stretch
plain_throw = (Sense, 4, 61, 1) ∷ ((MovePoint, 2, 0, 1) ∷ ((Tick, 0, 0, 60) ∷ []))

abbrev pub reversed_throw : ℕ → List Stretch
reversed_throw n =
    (Sense, 4, 119, 1) ∷ ((MovePoint, 2, 0, 1) ∷ ((Tick, 0, 0, n) ∷ ((MovePoint, 1, 0, 1) ∷ ((Tick, 0, 0, 120) ∷ []))))

abbrev pub test_plan : List Stretch
test_plan = set_up ++ (plain_throw ++ (reversed_throw 1 ++ reversed_throw 2))

abbrev pub test_list : List Call
test_list = all_calls test_plan
