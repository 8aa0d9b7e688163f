-- Looking names up finds just the arguments of which each name is that of a constructor.
use Rattle.std.proofs.Common.{◌≡◌, ℕ, suc, refl, sym, ap, ◌∙◌, Bool, true, false, ◌&&◌, ◌||◌, not, cond, List, [], ◌∷◌, ◌++◌, map, length, Option, Some}
use Rattle.std.proofs.Common.{None, is_some, option_map, option_and_then, arith, nat_lt}
use Rattle.std.proofs.lemmas.Bool.{lt-ltb, le-ltb}
use Rattle.std.proofs.lemmas.Option.{cond_some}
use Rattle.aw_name_index.specs.Places.{place_of, number_of, or_else}
use Rattle.aw_name_index.proofs.Lookups.{stands_is_placed}
use Rattle.aw_term.specs.Trees.{Never, Con, Num, Made, Trees, Nil, More, bind, binds}
use Rattle.aw_term.specs.Rules.{Ground}
use Rattle.aw_term.specs.WellFormed.{leaves, all_leaves, leaves_of}
use Rattle.aw_grammar.specs.Written.{Written, Word, Apply, Literal, Writtens, Empty, Then}
use Rattle.aw_grammar.specs.Resolved.{word_tree, resolved, resolved_parts, all_resolved}
use Rattle.aw_grammar.specs.Kinds.{is_known, parts_are_known, all_known}
use Rattle.aw_grammar.specs.Named.{number_named}
use Rattle.aw_grammar.proofs.Numbers.{number_is_place}
use Rattle.aw_sched.specs.Events.{ground_named}
use Rattle.aw_sched.specs.Grounds.{known_ground, known_parts, known_grounds}

abbrev filler : List ℕ → Ground
filler x = Made (Num 0) Nil

abbrev no_leaves : {A : Type 0} → List A → Bool
no_leaves [] = true
no_leaves (x ∷ xs) = false

-- each name in it is that of a constructor
abbrev fine : List (List ℕ) → Written → Bool
fine names t = is_known names t && no_leaves (leaves (resolved names t))

abbrev fine_parts : List (List ℕ) → Writtens → Bool
fine_parts names ts = parts_are_known names ts && no_leaves (all_leaves (resolved_parts names ts))

none_of_two : {A : Type 0} (xs ys : List A) → no_leaves (xs ++ ys) ≡ (no_leaves xs && no_leaves ys)
none_of_two [] ys = refl
none_of_two (x ∷ xs) ys = refl

word_law : (x : List ℕ) (p : Option ℕ) → option_map (λ c. let g : Ground = Made (Con c) Nil in g) p ≡ cond (true && no_leaves (leaves (word_tree x p))) (Some (bind filler (word_tree x p))) None
word_law x None = refl
word_law x (Some c) = refl

apply_law : (n : ℕ) (k b : Bool) (parts : Trees Never) (p : Option ℕ)
    → option_and_then (λ c. option_map (λ ps. let g : Ground = Made (Con c) ps in g) (cond (k && b) (Some parts) None)) p
    ≡ cond ((is_some p && k) && b) (Some (Made (Con (or_else n p)) parts)) None
apply_law n k b parts None = refl
apply_law n true true parts (Some c) = refl
apply_law n true false parts (Some c) = refl
apply_law n false b parts (Some c) = refl

two_law : {A B : Type 0} (f : Ground → A → B) (a b l m : Bool) (g : Ground) (gs : A)
    → option_and_then (λ x. option_map (λ xs. f x xs) (cond (b && m) (Some gs) None)) (cond (a && l) (Some g) None)
    ≡ cond ((a && b) && (l && m)) (Some (f g gs)) None
two_law f true true true true g gs = refl
two_law f true true true false g gs = refl
two_law f true false true m g gs = refl
two_law f true true false m g gs = refl
two_law f true false false m g gs = refl
two_law f false b l m g gs = refl

mutual
  known_is : (names : List (List ℕ)) (t : Written) → known_ground names t ≡ cond (fine names t) (Some (ground_named names t)) None
  known_is names (Word x) =
      ap (option_map (λ c. let g : Ground = Made (Con c) Nil in g)) (sym (number_is_place names x)) ∙ word_law x (place_of x names)
  known_is names (Apply x ts) =
      ap (λ o. option_and_then (λ c. option_map (λ ps. let g : Ground = Made (Con c) ps in g) o) (number_named names x)) (parts_known names ts)
      ∙ ap (λ o. option_and_then (λ c. option_map (λ ps. let g : Ground = Made (Con c) ps in g)
      (cond (fine_parts names ts) (Some (binds filler (resolved_parts names ts))) None)) o) (sym (number_is_place names x))
      ∙ apply_law (length names) (parts_are_known names ts) (no_leaves (all_leaves (resolved_parts names ts))) (binds filler (resolved_parts names ts)) (place_of x names)
      ∙ ap (λ b. cond ((b && parts_are_known names ts) && no_leaves (all_leaves (resolved_parts names ts)))
      (Some (Made (Con (number_of x names)) (binds filler (resolved_parts names ts)))) None) (stands_is_placed x names)
  known_is names (Literal h) = refl

  parts_known : (names : List (List ℕ)) (ts : Writtens) → known_parts names ts ≡ cond (fine_parts names ts) (Some (binds filler (resolved_parts names ts))) None
  parts_known names Empty = refl
  parts_known names (Then t ts) =
      ap (λ o. option_and_then (λ g. option_map (λ gs. More g gs) (known_parts names ts)) o) (known_is names t)
      ∙ ap (λ o. option_and_then (λ g. option_map (λ gs. More g gs) o) (cond (fine names t) (Some (ground_named names t)) None)) (parts_known names ts)
      ∙ two_law More (is_known names t) (parts_are_known names ts) (no_leaves (leaves (resolved names t)))
      (no_leaves (all_leaves (resolved_parts names ts))) (ground_named names t) (binds filler (resolved_parts names ts))
      ∙ ap (λ b. cond ((is_known names t && parts_are_known names ts) && b) (Some (More (ground_named names t) (binds filler (resolved_parts names ts)))) None)
      (sym (none_of_two (leaves (resolved names t)) (all_leaves (resolved_parts names ts))))

abbrev all_fine : List (List ℕ) → List Written → Bool
all_fine names ts = all_known names ts && no_leaves (leaves_of (all_resolved names ts))

all_known_is : (names : List (List ℕ)) (ts : List Written) → known_grounds names ts ≡ cond (all_fine names ts) (Some (map (ground_named names) ts)) None
all_known_is names [] = refl
all_known_is names (t ∷ ts) =
    ap (λ o. option_and_then (λ g. option_map (λ gs. g ∷ gs) (known_grounds names ts)) o) (known_is names t)
    ∙ ap (λ o. option_and_then (λ g. option_map (λ gs. g ∷ gs) o) (cond (fine names t) (Some (ground_named names t)) None)) (all_known_is names ts)
    ∙ two_law (λ g gs. g ∷ gs) (is_known names t) (all_known names ts) (no_leaves (leaves (resolved names t)))
    (no_leaves (leaves_of (all_resolved names ts))) (ground_named names t) (map (ground_named names) ts)
    ∙ ap (λ b. cond ((is_known names t && all_known names ts) && b) (Some (map (ground_named names) (t ∷ ts))) None)
    (sym (none_of_two (leaves (resolved names t)) (leaves_of (all_resolved names ts))))

-- the test of the definitions
abbrev unknown : List (List ℕ) → List Written → Bool
unknown names ts = not (all_known names ts) || nat_lt 0 (length (leaves_of (all_resolved names ts)))

some_leaves : {A : Type 0} (xs : List A) → nat_lt 0 (length xs) ≡ not (no_leaves xs)
some_leaves [] = le-ltb 0 0 (omega arith)
some_leaves (x ∷ xs) = lt-ltb 0 (suc (length xs)) (omega arith)

unknown_is : {A : Type 0} (a : Bool) (xs : List A) → (not a || nat_lt 0 (length xs)) ≡ not (a && no_leaves xs)
unknown_is true xs = some_leaves xs
unknown_is false xs = refl

from_none : (b : Bool) (gs : List Ground) → cond b (Some gs) None ≡ None → not b ≡ true
from_none true gs h = cc
from_none false gs h = refl

pub unknown_when : (names : List (List ℕ)) (ts : List Written) → known_grounds names ts ≡ None → unknown names ts ≡ true
unknown_when names ts h =
    unknown_is (all_known names ts) (leaves_of (all_resolved names ts))
    ∙ from_none (all_fine names ts) (map (ground_named names) ts) (sym (all_known_is names ts) ∙ h)

pub known_when : (names : List (List ℕ)) (ts : List Written) (found : List Ground) → known_grounds names ts ≡ Some found
    → (unknown names ts ≡ false) × (map (ground_named names) ts ≡ found)
known_when names ts found h =
    let (fine, same) = cond_some (all_fine names ts) (map (ground_named names) ts) found (sym (all_known_is names ts) ∙ h) in
    (unknown_is (all_known names ts) (leaves_of (all_resolved names ts)) ∙ ap not fine, same)
