-- One more stretch of calls.
use Rattle.std.proofs.Common.{◌≡◌, ℕ, ◌+◌, ◌<◌, List, ◌++◌, length, get_or, drop, sym, ap, ◌∙◌, append_assoc}
use Rattle.std.proofs.lemmas.List.{drop_more}
use Rattle.point_rig.specs.Calling.{Stretch, all_calls, stretch_calls}
use Rattle.records.specs.declared.call.Call.{Call}

pub one_more_stretch : (all items after : List Call) (plan : List Stretch) (i : ℕ) (d : Stretch) → i < length plan → all ≡ items ++ all_calls (drop i plan) → after ≡ items ++ stretch_calls (get_or plan i d) → all ≡ after ++ all_calls (drop (i + 1) plan)
one_more_stretch all items after plan i d within so_far grown =
    let x = get_or plan i d in
    let rest = all_calls (drop (i + 1) plan) in
    so_far ∙ ap (λ l. items ++ all_calls l) (drop_more plan i d within) ∙ sym (append_assoc items (stretch_calls x) rest) ∙ ap (λ l. l ++ rest) (sym grown)
