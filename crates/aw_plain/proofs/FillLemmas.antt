-- Terms and arguments with the values of their variables, and the holes of a node.
use Rattle.std.proofs.Common.{◌≡◌, ℕ, suc, ◌+◌, List, [], ◌∷◌, ◌++◌, map, sym, ap, ◌∙◌, arith}
use Rattle.std.proofs.lemmas.List.{map-append}
use Rattle.aw_term.specs.Trees as P
use Rattle.aw_term.specs.Trees.{Leaf, Made, join}
use Rattle.aw_term.specs.Names.{Node, result}
use Rattle.aw_term.specs.Rules.{Value, get, upto}
use Rattle.aw_term.specs.Configs.{fill, lift, holes, nothing}
use Rattle.aw_term.specs.Views.{term_of, ground_of}
use Rattle.aw_term.specs.declared.term.Expr as expr
use Rattle.aw_term.specs.declared.ground.Ground as grounds
use Rattle.aw_term.proofs.Joined.{upto_end}
use Rattle.aw_term.proofs.ViewLemmas.{term_con, ground_con}
use Rattle.aw_plain_rows.specs.declared.tree.Tree as tree
use Rattle.aw_plain_rows.specs.TreeView.{value_of, values_of}
use Rattle.aw_plain_rows.proofs.JobLemmas.{binds_join}

-- a constructor over filled parts
pub fill_con : (env : List Value) (e : expr.Expr) (c : ℕ) (parts qs : List expr.Expr) (us : List tree.Tree) → e ≡ expr.Con c parts → qs ≡ parts →
    values_of us ≡ map (fill env) (map term_of qs) → Made (P.Con c) (join (values_of us)) ≡ fill env (term_of e)
fill_con env e c parts qs us ie iq iv =
    ap (λ vs. Made (P.Con c) (join vs)) iv
    ∙ sym (ap (λ e. fill env (term_of e)) ie ∙ ap (fill env) (term_con c parts) ∙ ap (Made (P.Con c)) (binds_join (get nothing env) (map term_of parts))
    ∙ ap (λ ps. Made (P.Con c) (join (map (fill env) (map term_of ps)))) (sym iq))

-- a constructor over lifted parts
pub lift_con : (g : grounds.Ground) (c : ℕ) (parts qs : List grounds.Ground) (us : List tree.Tree) → g ≡ grounds.Con c parts → qs ≡ parts →
    values_of us ≡ map lift (map ground_of qs) → Made (P.Con c) (join (values_of us)) ≡ lift (ground_of g)
lift_con g c parts qs us ie iq iv =
    ap (λ vs. Made (P.Con c) (join vs)) iv
    ∙ sym (ap (λ g. lift (ground_of g)) ie ∙ ap lift (ground_con c parts) ∙ ap (Made (P.Con c)) (binds_join (λ x. elim x [ ]) (map ground_of parts))
    ∙ ap (λ ps. Made (P.Con c) (join (map lift (map ground_of ps)))) (sym iq))

-- one hole more
pub holes_more : (n : Node) (ts : List tree.Tree) (j : ℕ) → values_of ts ≡ holes n j → values_of (ts ++ tree.Hole n (j + 1) ∷ []) ≡ holes n (j + 1)
holes_more n ts j e =
    map-append value_of ts _
    ∙ ap (λ us. us ++ Leaf (result n (j + 1)) ∷ []) e
    ∙ sym (ap (λ k. holes n k) step ∙ ap (map hole) (upto_end 1 j) ∙ map-append hole (upto 1 j) _ ∙ ap (λ k. holes n j ++ hole k ∷ []) (omega arith))
  where
    hole : ℕ → Value
    hole k = Leaf (result n k)

    step : j + 1 ≡ suc j
    step = omega arith
