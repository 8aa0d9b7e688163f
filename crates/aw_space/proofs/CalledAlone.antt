-- A call that comes alone.
use Rattle.std.proofs.Common.{◌≡◌, ℕ, true, false, cond, List, [], ◌∷◌, Some, None, refl, ap, sym, ◌∙◌, slice_get}
use Rattle.std.specs.Prelude.{◌&&◌}
use Rattle.std.specs.Cmp.Lexicographic.{pointwise}
use Rattle.std.proofs.lemmas.Option.{same_Some}
use Rattle.aw_name.specs.contracts.node.RefPartialEq.TheImpl as reference
use Rattle.aw_name.specs.SameRefs.{ref_same}
use Rattle.aw_term.specs.Names.{Ref}
use Rattle.aw_term.specs.Rules.{Grammar}
use Rattle.aw_term.specs.Held as P
use Rattle.aw_node_list.specs.declared.held.Held.{Held}
use Rattle.aw_node_list.specs.HeldView.{all_of, held_of}
use Rattle.aw_node_list.specs.InOrder.{place_in}
use Rattle.aw_node_list.proofs.HeldViews.{held_here, held_nowhere}
use Rattle.aw_law_sites.specs.Receiving.{refs_eq}
use Rattle.aw_space.specs.Placed.{met}
use Rattle.aw_space.specs.Placings.{placed_call}
use Rattle.aw_space.specs.declared.adding.Placed.TheVariants.{Conflict, Same}
use Rattle.aw_space.specs.declared.placing.Placing.{Placing}

-- the equality that is derived in the program
pub refs_derived : (rs ss : List Ref) → pointwise (reference.ghosts).eq rs ss ≡ refs_eq rs ss
refs_derived [] [] = refl
refs_derived (r ∷ rs) (s ∷ ss) = (λ i. ref_same r s i && refs_derived rs ss i)
refs_derived [] (s ∷ ss) = refl
refs_derived (r ∷ rs) [] = refl

module _ (g : Grammar) (p : Placing) (hs : List Held) where
  -- a node that is not held
  pub met_nowhere : place_in p.node hs ≡ None → None ≡ met (P.held_of p.node (all_of g hs)) (placed_call g p)
  met_nowhere e = ap (λ o. met o (placed_call g p)) (sym (held_nowhere g p.node hs e))

  module _ (i : ℕ) (h : Held) (e : place_in p.node hs ≡ Some i) (at : slice_get hs i ≡ Some h) where
    here_as : P.held_of p.node (all_of g hs) ≡ Some (held_of g h)
    here_as = let w = held_here g p.node hs i e in w.3 ∙ ap (λ k. Some (held_of g k)) (same_Some _ _ (sym w.1 ∙ at))

    -- a node that is held with the same references
    pub met_same : refs_eq h.inherited p.inherited ≡ true → Some Same ≡ met (P.held_of p.node (all_of g hs)) (placed_call g p)
    met_same same = sym (ap (λ b. Some (cond b Same (Conflict h.inherited p.inherited))) same) ∙ ap (λ o. met o (placed_call g p)) (sym here_as)

    -- a node that is held with others
    pub met_other : (kept came : List Ref) → refs_eq h.inherited p.inherited ≡ false → kept ≡ h.inherited → came ≡ p.inherited →
        Some (Conflict kept came) ≡ met (P.held_of p.node (all_of g hs)) (placed_call g p)
    met_other kept came other k c =
        (λ j. Some (Conflict (k j) (c j))) ∙ sym (ap (λ b. Some (cond b Same (Conflict h.inherited p.inherited))) other) ∙ ap (λ o. met o (placed_call g p)) (sym here_as)
