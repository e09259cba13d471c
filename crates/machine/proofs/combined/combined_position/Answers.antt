use Rattle.std.proofs.Common.{◌≡◌, ◌-◌, min, map, ap, ◌∙◌, rules, refl}
use Rattle.std.proofs.lemmas.Iterator.{YieldsList-from_range, YieldsList-from_map}
use Rattle.std.proofs.lemmas.Iterator.Consumers.{YieldsList-at, fold_from_yields_List}
use Rattle.std.proofs.lemmas.List.{take_all}
use Rattle.std.specs.List.{fold, range_with_len}
use Rattle.legs.specs.Combined.{combined, joined}
use Rattle.machine.specs.Legs.{positions}
use Rattle.machine.specs.LegNumbers.{count_of, known_legs, known_part, shown_at}
use Rattle.machine.proofs.Together.{all_shown}
use Rattle.machine.proofs.combined.combined_position.Goals as goal

pub returns : goal.returns
returns g c =
    let m = g.M.Machine.meaning c.args.machine.now in
    let n = min (count_of m) known_legs in
    let run : c.fold.result ≡ fold joined (shown_at m 0) (map (shown_at m) (range_with_len 1 (n - 1))) =
    rw (← c.show.ensures) (fold_from_yields_List _ joined c.show.result c.fold.result c.fold.ensures.ran (YieldsList-from_map _ (shown_at m) (YieldsList-at c.map.ensures.source (YieldsList-from_range 1 n (n - 1) (search rules) refl)) c.map.ensures.closure (λ x r q k. search rules)) (λ a x b q k. search rules)) in
    let known : c.fold.result ≡ combined (positions (known_part m)) = run ∙ all_shown m (g.met.M.Machine.kept.some_leg c.args.machine.now) in
    record { known = known; whole = λ few. known ∙ ap (λ part. combined (positions part)) (take_all known_legs m few) }
