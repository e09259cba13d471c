use Rattle.std.proofs.Common.{◌≡◌, ℕ, None, List, [], ◌∷◌, map, refl, rules, sym}
use Rattle.point.proofs.Seen.{looked}
use Rattle.point.specs.Looks.{known_leg}
use Rattle.rules.proofs.Mapping.{mapped}
use Rattle.point.proofs.looking.snapshot.Goals as goal

pub returns : goal.returns
returns g c =
    let m = g.M.Machine.meaning c.args.machine.now in
    let numbers : List ℕ = 1 ∷ (2 ∷ (3 ∷ (4 ∷ []))) in
    let others : c.map.result ≡ map (known_leg m) numbers =
    mapped _ _ (known_leg m) 0 None (λ p x y q s k. search rules) numbers c.map.result 4 refl c.map.ensures.items in
    rw (c.leg_status.ensures, others, c.count.ensures) (sym (looked m))
