-- One more leg: what a group shows together, joined with what the next leg shows.
-- A group of legs is all left, all right, or neither; only in the last case can a leg be trailed.
use mathlib.Core.Bool.{Bool, true, false, cond, ◌&&◌, ◌||◌, and-true, or-false, and_assoc, or_assoc}
use mathlib.Core.List.{List, [], ◌∷◌, ◌++◌}
use mathlib.Core.Path.{◌≡◌, refl, sym}
use Rattle.legs.specs.declared.position.Position.{Position}
use Rattle.legs.specs.declared.position.Position.TheVariants.{Left, Right, NoEndPosition, Trailed}
use Rattle.legs.specs.Combined.{same_position, all_show, some_show, combined, joined}

pub data Group : Bool → Bool → Bool → Type 0 where
  all_left : Group true false false
  all_right : Group false true false
  one_trailed : Group false false true
  no_end : Group false false false

grown : (p : Position) {a b c : Bool} → Group a b c → Group (same_position Left p && a) (same_position Right p && b) (same_position Trailed p || c)
grown Left all_left = all_left
grown Left all_right = no_end
grown Left one_trailed = one_trailed
grown Left no_end = no_end
grown Right all_left = no_end
grown Right all_right = all_right
grown Right one_trailed = one_trailed
grown Right no_end = no_end
grown NoEndPosition all_left = no_end
grown NoEndPosition all_right = no_end
grown NoEndPosition one_trailed = one_trailed
grown NoEndPosition no_end = no_end
grown Trailed all_left = one_trailed
grown Trailed all_right = one_trailed
grown Trailed one_trailed = one_trailed
grown Trailed no_end = one_trailed

alone : (p : Position) → Group (all_show Left (p ∷ [])) (all_show Right (p ∷ [])) (some_show Trailed (p ∷ []))
alone Left = all_left
alone Right = all_right
alone NoEndPosition = no_end
alone Trailed = one_trailed

pub group : (p : Position) (ps : List Position) → Group (all_show Left (p ∷ ps)) (all_show Right (p ∷ ps)) (some_show Trailed (p ∷ ps))
group p [] = alone p
group p (q ∷ qs) = grown p (group q qs)

all_push : (x : Position) (ps : List Position) (p : Position) → all_show x (ps ++ (p ∷ [])) ≡ (all_show x ps && same_position x p)
all_push x [] p = and-true (same_position x p)
all_push x (q ∷ qs) p = rw (all_push x qs p) (sym (and_assoc (same_position x q) (all_show x qs) (same_position x p)))

some_push : (x : Position) (ps : List Position) (p : Position) → some_show x (ps ++ (p ∷ [])) ≡ (some_show x ps || same_position x p)
some_push x [] p = or-false (same_position x p)
some_push x (q ∷ qs) p = rw (some_push x qs p) (sym (or_assoc (same_position x q) (some_show x qs) (same_position x p)))

abbrev pub by_tests : Bool → Bool → Bool → Position
by_tests a b c = cond a Left (cond b Right (cond c Trailed NoEndPosition))

one_more : {a b c : Bool} → Group a b c → (p : Position) → by_tests (a && same_position Left p) (b && same_position Right p) (c || same_position Trailed p) ≡ joined (by_tests a b c) p
one_more all_left Left = refl
one_more all_left Right = refl
one_more all_left NoEndPosition = refl
one_more all_left Trailed = refl
one_more all_right Left = refl
one_more all_right Right = refl
one_more all_right NoEndPosition = refl
one_more all_right Trailed = refl
one_more one_trailed Left = refl
one_more one_trailed Right = refl
one_more one_trailed NoEndPosition = refl
one_more one_trailed Trailed = refl
one_more no_end Left = refl
one_more no_end Right = refl
one_more no_end NoEndPosition = refl
one_more no_end Trailed = refl

pub combined_push : (p : Position) (ps : List Position) (q : Position) → combined ((p ∷ ps) ++ (q ∷ [])) ≡ joined (combined (p ∷ ps)) q
combined_push p ps q = rw (all_push Left (p ∷ ps) q, all_push Right (p ∷ ps) q, some_push Trailed (p ∷ ps) q) (one_more (group p ps) q)

pub alone_shows : (p : Position) → p ≡ combined (p ∷ [])
alone_shows Left = refl
alone_shows Right = refl
alone_shows NoEndPosition = refl
alone_shows Trailed = refl
