use Rattle.std.proofs.Common.{◌≡◌, ◌≢◌, rules, refl}
use Rattle.std.proofs.lemmas.Iterator.{YieldsList-from_range, cases_from_all}
use Rattle.legs.specs.declared.drive.Drive.TheVariants.{Off}
use Rattle.machine.specs.LegNumbers.{known_legs, driven_at}
use Rattle.factory.proofs.AllLegs.{all_or_one}
use Rattle.factory.proofs.switching.all_off.Goals as goal

pub returns : goal.returns
returns g c =
    let m = g.M.Machine.meaning c.args.machine.now in
    all_or_one m c.all.result
    (cases_from_all _ _ _ (λ k. driven_at m k ≡ Off) (λ k. driven_at m k ≢ Off) c.all.ensures.ran (YieldsList-from_range 0 known_legs known_legs refl refl) (λ x q k. search rules) (λ x q k. search rules))
