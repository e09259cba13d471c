use Rattle.std.proofs.Common.{rules, ◌≡◌, length, None}
use Rattle.records.proofs.Together.{four_others, together}
use Rattle.records.proofs.snapshot.Snapshot.combined_position.Goals as goal

pub returns : goal.returns
returns c =
    let long : length c.args.self.others ≡ 4 = search rules in
    let one_by_one = four_others None c.args.self.others long in
    let t = together c.args.self in
    search rules
