-- Chains put together, and the actions of switches that are taken with their numbers.
use Rattle.std.proofs.Common.{◌≡◌, ℕ, zero, suc, ◌+◌, Bool, List, [], ◌∷◌, ◌++◌, map, length, refl, sym, ap, ◌∙◌, append_assoc, append-nil, arith}
use Rattle.std.proofs.lemmas.List.{map_push}
use Rattle.std.specs.List.{range_with_len, zip}
use Rattle.machine.specs.Actions.{Action}
use Rattle.point.specs.Chains.{Chain, off_action, off_actions}

pub linked : {M : Type 0} (does : M → Action → M → Type 0) (front back : List Action) (x y z : M) → Chain does x front y → Chain does y back z → Chain does x (front ++ back) z
linked does [] back x y z h k = rw h at k
linked does (a ∷ front) back x y z h k = (h.0, (h.1.0, linked does front back h.0 y z h.1.1 k))

abbrev pub numbered : List (ℕ × Bool) → List Action
numbered [] = []
numbered (leg ∷ legs) = off_action leg.0 leg.1 ++ numbered legs

numbered_push : (legs : List (ℕ × Bool)) (k : ℕ) (off : Bool) → numbered (legs ++ ((k, off) ∷ [])) ≡ numbered legs ++ off_action k off
numbered_push [] k off = append-nil (off_action k off)
numbered_push (leg ∷ legs) k off =
    ap (λ rest. off_action leg.0 leg.1 ++ rest) (numbered_push legs k off)
    ∙ sym (append_assoc (off_action leg.0 leg.1) (numbered legs) (off_action k off))

-- one leg more, however it is given
pub one_more : {M X : Type 0} (does : M → Action → M → Type 0) (given : X → ℕ × Bool) (taken : List X) (leg : X) (x y z : M) → Chain does x (numbered (map given taken)) y → Chain does y (off_action (given leg).0 (given leg).1) z → Chain does x (numbered (map given (taken ++ (leg ∷ [])))) z
one_more does given taken leg x y z h k =
    rw (map_push given taken leg, numbered_push (map given taken) (given leg).0 (given leg).1)
    (linked does (numbered (map given taken)) (off_action (given leg).0 (given leg).1) x y z h k)

numbered_none : (k n : ℕ) → numbered (zip (range_with_len k n) []) ≡ []
numbered_none k zero = refl
numbered_none k (suc n) = refl

pub numbered_all : (k n : ℕ) (offs : List Bool) → length offs ≡ n → numbered (zip (range_with_len k n) offs) ≡ off_actions k offs
numbered_all k n [] long = numbered_none k n
numbered_all k zero (off ∷ offs) long = absurd (omega (arith, long))
numbered_all k (suc n) (off ∷ offs) long =
    let next : k + 1 ≡ suc k = omega arith in
    ap (λ j. off_action k off ++ numbered (zip (range_with_len j n) offs)) next
    ∙ ap (λ rest. off_action k off ++ rest) (numbered_all (suc k) n offs (omega (arith, long)))
