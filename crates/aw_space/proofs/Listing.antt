-- The worklist of the first held nodes.
use Rattle.std.proofs.Common.{◌≡◌, ℕ, zero, suc, List, [], ◌∷◌, ◌++◌, Some, slice_get, take, sym, ap, ◌∙◌, append-nil, append_assoc}
use Rattle.aw_term.specs.Rules.{Grammar}
use Rattle.aw_store.specs.Equations.{Map}
use Rattle.aw_node_list.specs.declared.held.Held.{Held}
use Rattle.aw_node_list.specs.HeldView.{held_of, all_of, state_of}
use Rattle.aw_law_sites.specs.Worklists.{open_items, site_worklist}

-- one node more: its items come last
pub site_taken : (g : Grammar) (k : Map) (hs : List Held) (i : ℕ) (h : Held) → slice_get hs i ≡ Some h →
    site_worklist g k (all_of g (take (suc i) hs)) ≡ site_worklist g k (all_of g (take i hs)) ++ open_items g (state_of h.done) k (held_of g h)
site_taken g k [] i h e = absurd cc
site_taken g k (x ∷ xs) zero h e = let same : x ≡ h = cc in append-nil (open_items g (state_of x.done) k (held_of g x)) ∙ ap (λ (y : Held). open_items g (state_of y.done) k (held_of g y)) same
site_taken g k (x ∷ xs) (suc i) h e =
    let items = open_items g (state_of x.done) k (held_of g x) in
    ap (λ zs. items ++ zs) (site_taken g k xs i h e)
    ∙ sym (append_assoc items (site_worklist g k (all_of g (take i xs))) (open_items g (state_of h.done) k (held_of g h)))
