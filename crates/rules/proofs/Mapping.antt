-- What an array's `map` makes, where each call of the closure changes none of its captures and gives the value of a function.
use Rattle.std.proofs.Common.{◌≡◌, ℕ, zero, suc, ◌+◌, ◌<◌, ◌≤◌, List, map, length, slice_index_or, sym, ap, ◌∙◌, subst, ⊎_elim, refl, arith}
use Rattle.std.proofs.lemmas.List.{length-map}
use Rattle.std.proofs.lemmas.Bool.{cases_lt}
use Rattle.std.proofs.lemmas.List.{ext_get_or, get_or-map}
use Rattle.std.specs.Array.{IsMapOf, MapsFrom}
use Rattle.std.specs.Fn.{Mut, Called}

module _ {F A B : Type 0} (g : Mut F (A × Unit {0}) B) (f : F) (h : A → B) (d : A) (e : B)
    (acts : (p : F) (x : A) (y : B) (q : F) → p ≡ f → Called g p (x, tt) y q → (q ≡ f) × (y ≡ h x)) where
  at_each : (xs : List A) (ys : List B) (n i : ℕ) (p : F) → p ≡ f → MapsFrom g p xs ys i n → (k : ℕ) → i ≤ k → k < i + n → slice_index_or ys k e ≡ h (slice_index_or xs k d)
  at_each xs ys zero i p same m k low high = absurd (omega arith)
  at_each xs ys (suc n) i p same m k low high =
      let call = acts p m.1 m.2 m.0 same m.5 in
      let here : slice_index_or ys i e ≡ h (slice_index_or xs i d) = m.4.1 e ∙ call.1 ∙ ap h (sym (m.3.1 d)) in
      ⊎_elim
      (λ later. at_each xs ys n (i + 1) m.0 call.0 m.6 k (omega arith) (omega arith))
      (λ now. let at : i ≡ k = omega arith in subst (λ j. slice_index_or ys j e ≡ h (slice_index_or xs j d)) at here)
      (cases_lt i k)

  pub mapped : (xs : List A) (ys : List B) (n : ℕ) → length xs ≡ n → IsMapOf g f xs ys n → ys ≡ map h xs
  mapped xs ys n long is =
      ext_get_or e ys (map h xs) (is.long ∙ sym long ∙ sym (length-map xs h))
      (λ i l. at_each xs ys n 0 f refl is.each i (omega arith) (omega (arith, is.long)) ∙ sym (get_or-map h xs i d e (omega (arith, is.long, long))))
