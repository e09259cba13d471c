-- The letter of every verdict, as its character code; a refusal has its number as a digit.
-- verdict_letter  the letter or digit
-- same_verdict    two verdicts are one if their letters are
-- sets_off        a movement is opened or reversed
-- is_refusal      the verdict is a refusal
use Rattle.std.specs.Prelude.{ℕ, ◌+◌, Bool, true, false, ◌||◌, ◌==◌}
use Rattle.records.specs.declared.verdict.Verdict.{Verdict}
use Rattle.records.specs.declared.verdict.Verdict.TheVariants.{Plain, AlreadyThere, Opened, AlreadyMoving, Reversed, Arrived, TimedOut, Refused}
use Rattle.records.specs.Refusals.{refusal_number}

abbrev pub verdict_letter : Verdict → ℕ
verdict_letter Plain = 45
verdict_letter AlreadyThere = 65
verdict_letter Opened = 79
verdict_letter AlreadyMoving = 71
verdict_letter Reversed = 86
verdict_letter Arrived = 69
verdict_letter TimedOut = 88
verdict_letter (Refused r) = 48 + refusal_number r

abbrev pub same_verdict : Verdict → Verdict → Bool
same_verdict v w = verdict_letter v == verdict_letter w

abbrev pub sets_off : Verdict → Bool
sets_off v = same_verdict v Opened || same_verdict v Reversed

abbrev pub is_refusal : Verdict → Bool
is_refusal Plain = false
is_refusal AlreadyThere = false
is_refusal Opened = false
is_refusal AlreadyMoving = false
is_refusal Reversed = false
is_refusal Arrived = false
is_refusal TimedOut = false
is_refusal (Refused r) = true
