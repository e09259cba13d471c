-- What comes of a call.
-- Answer  a verdict and two messages
-- silent  a verdict without messages
use Rattle.records.specs.declared.message.Message.{Message}
use Rattle.records.specs.declared.message.Message.TheVariants.{Nothing}
use Rattle.records.specs.declared.verdict.Verdict.{Verdict}

abbrev pub Answer : Type 0
Answer = Verdict × Message × Message

abbrev pub silent : Verdict → Answer
silent v = (v, Nothing, Nothing)
