-- The legs of a machine, one after the other: what those up to a number show together.
use Rattle.std.proofs.Common.{◌≡◌, ℕ, zero, suc, ◌+◌, ◌-◌, ◌<◌, ◌≤◌, min, List, [], ◌∷◌, ◌++◌, map, length, get_or, take, Some, sym, ap, ◌∙◌, ⊎_elim, arith}
use Rattle.std.proofs.lemmas.List.{map_more, take_all}
use Rattle.std.proofs.lemmas.Option.{slice_get-get_or}
use Rattle.std.proofs.lemmas.Bool.{lt-ltb, cases_lt}
use Rattle.std.specs.List.{fold, range_with_len}
use Rattle.legs.proofs.Joining.{combined_push, alone_shows}
use Rattle.legs.specs.Combined.{combined, joined}
use Rattle.machine.specs.Legs.{Leg, positions}
use Rattle.machine.specs.LegNumbers.{count_of, known_legs, known_part, leg_at, shown_at, shown_of}

-- the first leg is a group of one
pub first_shown : (m : List Leg) → 0 < length m → shown_at m 0 ≡ combined (positions (take 1 m))
first_shown [] some = absurd (omega arith)
first_shown (l ∷ m) some = alone_shows l.shows

-- a leg with a number that callers can use is there
pub known_leg : (m : List Leg) (k : ℕ) (d : Leg) → k < length m → k < known_legs → leg_at m k ≡ Some (get_or m k d)
known_leg m k d within known = rw (lt-ltb k known_legs known) (slice_get-get_or m k d within)

pub next_shown : (m : List Leg) (k : ℕ) → 0 < k → k < length m → k < known_legs → joined (combined (positions (take k m))) (shown_at m k) ≡ combined (positions (take (k + 1) m))
next_shown [] k after within known = absurd (omega arith)
next_shown (l ∷ m) zero after within known = absurd (omega arith)
next_shown (l ∷ m) (suc k) after within known =
    let x = get_or (l ∷ m) (suc k) l in
    let shown : shown_at (l ∷ m) (suc k) ≡ x.shows = ap shown_of (known_leg (l ∷ m) (suc k) l within known) in
    let longer : positions (take (suc k + 1) (l ∷ m)) ≡ positions (take (suc k) (l ∷ m)) ++ (x.shows ∷ []) = map_more (λ y. y.shows) (l ∷ m) (suc k) l within in
    rw (shown, longer) (sym (combined_push l.shows (positions (take k m)) x.shows))

-- the legs below k, and then n more
more_shown : (m : List Leg) (k n : ℕ) → 0 < k → k + n ≤ length m → k + n ≤ known_legs → fold joined (combined (positions (take k m))) (map (shown_at m) (range_with_len k n)) ≡ combined (positions (take (k + n) m))
more_shown m k zero after within known = ap (λ i. combined (positions (take i m))) (omega arith)
more_shown m k (suc n) after within known =
    let count : (k + 1) + n ≡ k + suc n = omega arith in
    ap (λ p. fold joined p (map (shown_at m) (range_with_len (k + 1) n))) (next_shown m k after (omega arith) (omega arith))
    ∙ (more_shown m (k + 1) n (omega arith) (omega arith) (omega arith) ∙ ap (λ i. combined (positions (take i m))) count)

-- as many legs as there are, but at most five, are the legs that callers know
pub known_taken : (m : List Leg) (k : ℕ) → k ≡ min (length m) known_legs → take k m ≡ known_part m
known_taken m k e =
    ⊎_elim
    (λ few. take_all k m (omega (arith, e)) ∙ sym (take_all known_legs m (omega arith)))
    (λ many. let five : k ≡ known_legs = omega (arith, e) in ap (λ n. take n m) five)
    (cases_lt (length m) known_legs)

-- leg 0, joined with the other legs that callers know
pub all_shown : (m : List Leg) → 0 < length m → fold joined (shown_at m 0) (map (shown_at m) (range_with_len 1 (min (count_of m) known_legs - 1))) ≡ combined (positions (known_part m))
all_shown m some =
    let n = min (count_of m) known_legs - 1 in
    rw (first_shown m some)
    (more_shown m 1 n (omega arith) (omega arith) (omega arith) ∙ ap (λ part. combined (positions part)) (known_taken m (1 + n) (omega arith)))
