-- Tests and measures of three lists in a row.
use Rattle.std.proofs.Common.{◌≡◌, ℕ, ◌+◌, ◌&&◌, List, ◌++◌, max, sym, ap, ◌∙◌}
use Rattle.aw_grammar.specs.declared.rule.Con.{Con}
use Rattle.aw_grammar.specs.Written.{Written}
use Rattle.aw_grammar.specs.Terms.{depth_of_all, symbols_in_all}
use Rattle.aw_grammar.specs.Kinds.{all_known, all_have_arities}
use Rattle.aw_grammar.proofs.Appends.{known_append, arities_append, depth_append, symbols_append}

pub known_three : (index cons : List (List ℕ)) → index ≡ cons → (xs ys zs : List Written) → (all_known index xs && (all_known index ys && all_known index zs)) ≡ all_known cons (xs ++ (ys ++ zs))
known_three index cons e xs ys zs =
    sym (known_append index xs (ys ++ zs) ∙ ap (λ b. all_known index xs && b) (known_append index ys zs)) ∙ ap (λ names. all_known names (xs ++ (ys ++ zs))) e

pub arities_three : (cons : List Con) (xs ys zs : List Written) → (all_have_arities cons xs && (all_have_arities cons ys && all_have_arities cons zs)) ≡ all_have_arities cons (xs ++ (ys ++ zs))
arities_three cons xs ys zs = sym (arities_append cons xs (ys ++ zs) ∙ ap (λ b. all_have_arities cons xs && b) (arities_append cons ys zs))

pub depth_three : (xs ys zs : List Written) → depth_of_all (xs ++ (ys ++ zs)) ≡ max (depth_of_all xs) (max (depth_of_all ys) (depth_of_all zs))
depth_three xs ys zs = depth_append xs (ys ++ zs) ∙ ap (λ n. max (depth_of_all xs) n) (depth_append ys zs)

pub symbols_three : (xs ys zs : List Written) → symbols_in_all (xs ++ (ys ++ zs)) ≡ symbols_in_all xs + (symbols_in_all ys + symbols_in_all zs)
symbols_three xs ys zs = symbols_append xs (ys ++ zs) ∙ ap (λ n. symbols_in_all xs + n) (symbols_append ys zs)
