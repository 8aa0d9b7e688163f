-- What the sites of workspaces hold in order.
use Rattle.std.proofs.Common.{◌≡◌, ℕ, suc, true, List, [], ◌∷◌, map, ap, sym, ◌∙◌, refl}
use Rattle.std.specs.Prelude.{slice_get, Some}
use Rattle.aw_term.specs.Rules.{Grammar}
use Rattle.aw_term.specs.SameGrammar.{same_grammar}
use Rattle.aw_term.proofs.GrammarTests.{grammars_are_one}
use Rattle.aw_term.specs.Held.{insert_all}
use Rattle.aw_node_list.specs.HeldView.{all_of}
use Rattle.aw_node_list.proofs.HeldViews.{view_all_inserted}
use Rattle.aw_law_sites.specs.Worlds.{gather}
use Rattle.aw_world.specs.declared.workspace.Workspace.{Ghosts}
use Rattle.aw_world.specs.Merged.{merged, nodes_of}

pub gathered : {W : Type 0} (f : Ghosts W) → ((w : W) → (f.seen w).held ≡ all_of (f.its_grammar w) (f.its_nodes w)) → (g : Grammar) (ws : List W)
    → ((i : ℕ) (w : W) → slice_get ws i ≡ Some w → same_grammar (f.its_grammar w) g ≡ true) → gather (map (λ w. f.seen w) ws) ≡ all_of g (merged (nodes_of f ws))
gathered f hold g [] same = refl
gathered f hold g (w ∷ ws) same =
    let own : (f.seen w).held ≡ all_of g (f.its_nodes w) = hold w ∙ ap (λ z. all_of z (f.its_nodes w)) (grammars_are_one (f.its_grammar w) g (same 0 w refl)) in
    let rest = gathered f hold g ws (λ i x e. same (suc i) x e) in
    ap (λ hs. insert_all hs (gather (map (λ w. f.seen w) ws))) own ∙ ap (insert_all (all_of g (f.its_nodes w))) rest ∙ sym (view_all_inserted g (f.its_nodes w) (merged (nodes_of f ws)))
