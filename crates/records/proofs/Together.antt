-- The legs of a snapshot, joined one after the other.
use Rattle.std.proofs.Common.{◌≡◌, List, [], ◌∷◌, ◌++◌, length, get_or, map, Some, None, fold, Option, refl, sym, ap, ◌∙◌, append_assoc, append-nil, arith}
use Rattle.legs.specs.declared.position.Position.{Position}
use Rattle.legs.specs.Combined.{combined}
use Rattle.legs.proofs.Joining.{combined_push, alone_shows}
use Rattle.records.specs.declared.snapshot.LegStatus.{LegStatus}
use Rattle.records.specs.declared.snapshot.Snapshot.{Snapshot}
use Rattle.records.specs.Snapshots.{present, shown_in, join_leg}

abbrev shown : List (Option LegStatus) → List Position
shown os = map (λ l. l.shows) (present os)

join_legs : (p : Position) (ps : List Position) (os : List (Option LegStatus)) → combined ((p ∷ ps) ++ shown os) ≡ fold join_leg (combined (p ∷ ps)) os
join_legs p ps [] = ap combined (append-nil (p ∷ ps))
join_legs p ps (None ∷ os) = join_legs p ps os
join_legs p ps (Some l ∷ os) =
    ap combined (sym (append_assoc (p ∷ ps) (l.shows ∷ []) (shown os)))
    ∙ join_legs p (ps ++ (l.shows ∷ [])) os
    ∙ ap (λ q. fold join_leg q os) (combined_push p ps l.shows)

pub together : (x : Snapshot) → fold join_leg x.first.shows x.others ≡ combined (shown_in x)
together x = sym (join_legs x.first.shows [] x.others ∙ ap (λ p. fold join_leg p x.others) (sym (alone_shows x.first.shows)))

-- the four others, one by one
pub four_others : {X : Type 0} (d : X) (xs : List X) → length xs ≡ 4 → get_or xs 0 d ∷ (get_or xs 1 d ∷ (get_or xs 2 d ∷ (get_or xs 3 d ∷ []))) ≡ xs
four_others d [] long = absurd (omega (arith, long))
four_others d (a ∷ []) long = absurd (omega (arith, long))
four_others d (a ∷ (b ∷ [])) long = absurd (omega (arith, long))
four_others d (a ∷ (b ∷ (c ∷ []))) long = absurd (omega (arith, long))
four_others d (a ∷ (b ∷ (c ∷ (e ∷ [])))) long = refl
four_others d (a ∷ (b ∷ (c ∷ (e ∷ (f ∷ more))))) long = absurd (omega (arith, long))
