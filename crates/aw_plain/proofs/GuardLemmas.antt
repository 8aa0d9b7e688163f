-- Guards through the views.
use Rattle.std.proofs.Common.{◌≡◌, ◌+◌, ◌<◌, ◌∷◌, ℕ, suc, List, map, drop, length, get_or, ap, sym, ◌∙◌}
use Rattle.std.proofs.lemmas.List.{at_drop_more}
use Rattle.aw_term.specs.Rules.{Value}
use Rattle.aw_term.specs.Matching.{Yes, and_then, under, match, match_all}
use Rattle.aw_term.specs.Views.{pattern_of}
use Rattle.aw_term.specs.declared.term.Pattern.{Pattern}
use Rattle.aw_plain_rows.specs.declared.tree.Tree.{Tree}
use Rattle.aw_plain_rows.specs.TreeView.{value_of, values_of}
use Rattle.aw_plain.proofs.MatchLemmas.{M}

abbrev pub guard_from : ℕ → ℕ → List Pattern → List Tree → M
guard_from n i ps ts = match_all n (map pattern_of (drop i ps)) (values_of (drop i ts))

guard_more : (n i : ℕ) (ps : List Pattern) (ts : List Tree) (p : Pattern) (t : Tree) → i < length ps → i < length ts → p ≡ get_or ps i p →
    t ≡ get_or ts i t → guard_from n i ps ts ≡ and_then (under n (match (pattern_of p) (value_of t))) (guard_from (suc n) (i + 1) ps ts)
guard_more n i ps ts p t lp lt ep et =
    at_drop_more (λ qs. match_all n (map pattern_of qs) (values_of (drop i ts))) ps i p lp
    ∙ at_drop_more (λ us. match_all n (map pattern_of (get_or ps i p ∷ drop (i + 1) ps)) (values_of us)) ts i t lt
    ∙ ap (λ q. and_then (under n (match (pattern_of q) (value_of (get_or ts i t)))) (guard_from (suc n) (i + 1) ps ts)) (sym ep)
    ∙ ap (λ u. and_then (under n (match (pattern_of p) (value_of u))) (guard_from (suc n) (i + 1) ps ts)) (sym et)

-- one more pattern has given this
pub guard_step : (n i : ℕ) (ps : List Pattern) (ts : List Tree) (p : Pattern) (t : Tree) (xs : List Value) (m whole : M) → i < length ps →
    i < length ts → p ≡ get_or ps i p → t ≡ get_or ts i t → m ≡ match (pattern_of p) (value_of t) → and_then (Yes xs) (guard_from n i ps ts) ≡ whole →
    and_then (Yes xs) (and_then (under n m) (guard_from (suc n) (i + 1) ps ts)) ≡ whole
guard_step n i ps ts p t xs m whole lp lt ep et em w =
    ap (λ z. and_then (Yes xs) (and_then (under n z) (guard_from (suc n) (i + 1) ps ts))) em
    ∙ ap (and_then (Yes xs)) (sym (guard_more n i ps ts p t lp lt ep et)) ∙ w
