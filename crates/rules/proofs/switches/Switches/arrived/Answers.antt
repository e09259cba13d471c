use Rattle.std.proofs.Common.{rules, ◌≡◌, length, refl, false, None}
use Rattle.records.proofs.Together.{four_others}
use Rattle.rules.specs.Switches.{leg_arrived}
use Rattle.rules.proofs.Mapping.{mapped}
use Rattle.rules.proofs.switches.Switches.arrived.Goals as goal

pub returns : goal.returns
returns c =
    let others : length c.args.legs.others ≡ 4 = search rules in
    let one_by_one = four_others None c.args.legs.others others in
    let long : length c.legs.result ≡ 5 = search rules in
    let same = mapped _ _ leg_arrived None false (λ p x y q s k. (refl, search rules)) c.legs.result c.map.result 5 long c.map.ensures.items in
    search rules
