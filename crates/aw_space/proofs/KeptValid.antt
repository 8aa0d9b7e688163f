-- What is added to a space fits its grammar where it fitted.
use Rattle.std.proofs.Common.{◌≡◌, ℕ, zero, suc, Bool, true, false, cond, List, [], ◌∷◌, ◌++◌, Some, slice_get, refl, subst}
use Rattle.std.proofs.lemmas.Bool.{and_parts, and_from}
use Rattle.aw_term.specs.Names.{node_lt}
use Rattle.aw_term.specs.Rules.{Grammar}
use Rattle.aw_choice.specs.declared.choice.Choice.{Choice}
use Rattle.aw_store.specs.Equations.{Map}
use Rattle.aw_node_list.specs.declared.held.Held.{Held}
use Rattle.aw_node_list.specs.InOrder.{insert_in, insert_all_in, done_at}
use Rattle.aw_law_sites.specs.ValidNames.{refs_ok, equation_ok, equations_ok}
use Rattle.aw_space.specs.Valid.{done_fits, held_fits, all_fit}

fit_cases : (g : Grammar) (b : Bool) (h k : Held) (ks zs : List Held) → held_fits g h ≡ true → all_fit g (k ∷ ks) ≡ true → all_fit g zs ≡ true → all_fit g (cond b (h ∷ k ∷ ks) (k ∷ zs)) ≡ true
fit_cases g true h k ks zs here all later = and_from _ _ here all
fit_cases g false h k ks zs here all later = and_from _ _ (and_parts (held_fits g k) _ all).0 later

pub fit_inserted : (g : Grammar) (h : Held) (hs : List Held) → held_fits g h ≡ true → all_fit g hs ≡ true → all_fit g (insert_in h hs) ≡ true
fit_inserted g h [] here all = and_from _ _ here refl
fit_inserted g h (k ∷ ks) here all = fit_cases g (node_lt h.node k.node) h k ks (insert_in h ks) here all (fit_inserted g h ks here (and_parts (held_fits g k) _ all).1)

pub fit_all_inserted : (g : Grammar) (hs ks : List Held) → all_fit g hs ≡ true → all_fit g ks ≡ true → all_fit g (insert_all_in hs ks) ≡ true
fit_all_inserted g [] ks new all = all
fit_all_inserted g (h ∷ hs) ks new all = let (a, b) = and_parts (held_fits g h) _ new in fit_all_inserted g hs (insert_in h ks) b (fit_inserted g h ks a all)

pub fit_done : (g : Grammar) (c : Choice) (i : ℕ) (hs : List Held) (h : Held) → slice_get hs i ≡ Some h → done_fits g h.node (Some c) ≡ true → all_fit g hs ≡ true → all_fit g (done_at c i hs) ≡ true
fit_done g c i [] h e fits all = absurd cc
fit_done g c zero (x ∷ xs) h e fits all =
    let same : h ≡ x = cc in
    let (a, b) = and_parts (held_fits g x) _ all in
    and_from _ _ (and_from _ _ (and_parts (refs_ok g x.inherited) _ a).0 (subst (λ (y : Held). done_fits g y.node (Some c) ≡ true) same fits)) b
fit_done g c (suc i) (x ∷ xs) h e fits all = let (a, b) = and_parts (held_fits g x) _ all in and_from _ _ a (fit_done g c i xs h e fits b)

pub refs_here : (g : Grammar) (hs : List Held) (i : ℕ) (h : Held) → all_fit g hs ≡ true → slice_get hs i ≡ Some h → refs_ok g h.inherited ≡ true
refs_here g [] i h all e = absurd cc
refs_here g (x ∷ xs) zero h all e =
    let same : x ≡ h = cc in
    subst (λ (y : Held). refs_ok g y.inherited ≡ true) same (and_parts (refs_ok g x.inherited) _ (and_parts (held_fits g x) _ all).0).0
refs_here g (x ∷ xs) (suc i) h all e = refs_here g xs i h (and_parts (held_fits g x) _ all).1 e

pub valid_append : (g : Grammar) (k es : Map) → equations_ok g k ≡ true → equations_ok g es ≡ true → equations_ok g (k ++ es) ≡ true
valid_append g [] es a b = b
valid_append g (e ∷ k) es a b = let (x, y) = and_parts (equation_ok g e) _ a in and_from _ _ x (valid_append g k es y b)
