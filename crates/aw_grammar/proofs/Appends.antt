-- Measures and tests of lists of terms, over one list after another.
use Rattle.std.proofs.Common.{◌≡◌, ℕ, ◌+◌, Bool, true, false, ◌&&◌, ◌||◌, List, [], ◌∷◌, ◌++◌, max, refl, sym, ap, ◌∙◌, arith, append_assoc}
use Rattle.aw_name_index.specs.Places.{stands, any_stands, all_stand}
use Rattle.aw_term.specs.WellFormed.{leaves, leaves_of}
use Rattle.aw_grammar.specs.declared.rule.Con.{Con}
use Rattle.aw_grammar.specs.Written.{Written}
use Rattle.aw_grammar.specs.Terms.{depth_of_all, symbols_in_all}
use Rattle.aw_grammar.specs.Resolved.{resolved, all_resolved}
use Rattle.aw_grammar.specs.Kinds.{is_known, all_known, has_arities, all_have_arities}

pub depth_append : (xs ys : List Written) → depth_of_all (xs ++ ys) ≡ max (depth_of_all xs) (depth_of_all ys)
depth_append [] ys = omega arith
depth_append (x ∷ xs) ys = omega (arith, depth_append xs ys)

pub symbols_append : (xs ys : List Written) → symbols_in_all (xs ++ ys) ≡ symbols_in_all xs + symbols_in_all ys
symbols_append [] ys = omega arith
symbols_append (x ∷ xs) ys = omega (arith, symbols_append xs ys)

pub and_more : (a b c d : Bool) → b ≡ (c && d) → (a && b) ≡ ((a && c) && d)
and_more true b c d h = h
and_more false b c d h = refl

or_more : (a b c d : Bool) → b ≡ (c || d) → (a || b) ≡ ((a || c) || d)
or_more true b c d h = refl
or_more false b c d h = h

pub known_append : (cons : List (List ℕ)) (xs ys : List Written) → all_known cons (xs ++ ys) ≡ (all_known cons xs && all_known cons ys)
known_append cons [] ys = refl
known_append cons (x ∷ xs) ys = and_more (is_known cons x) (all_known cons (xs ++ ys)) (all_known cons xs) (all_known cons ys) (known_append cons xs ys)

pub arities_append : (cons : List Con) (xs ys : List Written) → all_have_arities cons (xs ++ ys) ≡ (all_have_arities cons xs && all_have_arities cons ys)
arities_append cons [] ys = refl
arities_append cons (x ∷ xs) ys = and_more (has_arities cons x) (all_have_arities cons (xs ++ ys)) (all_have_arities cons xs) (all_have_arities cons ys) (arities_append cons xs ys)

pub any_append : (names xs ys : List (List ℕ)) → any_stands (xs ++ ys) names ≡ (any_stands xs names || any_stands ys names)
any_append names [] ys = refl
any_append names (x ∷ xs) ys = or_more (stands x names) (any_stands (xs ++ ys) names) (any_stands xs names) (any_stands ys names) (any_append names xs ys)

pub all_append : (names xs ys : List (List ℕ)) → all_stand (xs ++ ys) names ≡ (all_stand xs names && all_stand ys names)
all_append names [] ys = refl
all_append names (x ∷ xs) ys = and_more (stands x names) (all_stand (xs ++ ys) names) (all_stand xs names) (all_stand ys names) (all_append names xs ys)

pub variables_append : (cons : List (List ℕ)) (xs ys : List Written) → leaves_of (all_resolved cons (xs ++ ys)) ≡ leaves_of (all_resolved cons xs) ++ leaves_of (all_resolved cons ys)
variables_append cons [] ys = refl
variables_append cons (x ∷ xs) ys =
    ap (λ zs. leaves (resolved cons x) ++ zs) (variables_append cons xs ys) ∙ sym (append_assoc (leaves (resolved cons x)) (leaves_of (all_resolved cons xs)) (leaves_of (all_resolved cons ys)))
