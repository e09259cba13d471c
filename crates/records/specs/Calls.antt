-- What a point can be asked for.
-- call_letter  the letter of a kind of call, as its character code
-- call_of      a call of a kind, with its two arguments
-- same_kind    two kinds of call are one if their letters are
use Rattle.std.specs.Prelude.{ℕ, Bool, ◌==◌}
use Rattle.records.specs.declared.call.Call.{Call}
use Rattle.records.specs.declared.call.CallKind.{CallKind}
use Rattle.records.specs.declared.call.CallKind.TheVariants.{StartService, CheckVersion, ReportStatus, FinishReport, LoseConnection, MovePoint, Sense, Tick}

abbrev pub call_letter : CallKind → ℕ
call_letter StartService = 66
call_letter CheckVersion = 67
call_letter ReportStatus = 82
call_letter FinishReport = 70
call_letter LoseConnection = 76
call_letter MovePoint = 77
call_letter Sense = 83
call_letter Tick = 84

abbrev pub call_of : CallKind → ℕ → ℕ → Call
call_of k a b = record { kind = k; a = a; b = b }

abbrev pub same_kind : CallKind → CallKind → Bool
same_kind k j = call_letter k == call_letter j
