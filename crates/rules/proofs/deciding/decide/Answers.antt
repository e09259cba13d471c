use Rattle.std.proofs.Common.{◌≡◌, rules}
use Rattle.rules.proofs.Refusing.{refused_by}
use Rattle.rules.proofs.deciding.decide.Goals as goal
use Rattle.rules.specs.Deciding.{decide}

pub returns-clause-refusal : goal.returns-clause-refusal
returns-clause-refusal c =
    let value : c.unwrap_or_else.result ≡ decide c.args.call c.args.state c.args.read c.args.legs = search rules in
    refused_by c.unwrap_or_else.result c.args.call c.args.state c.args.read c.args.legs value
