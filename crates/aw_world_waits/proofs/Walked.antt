-- One held node more of a workspace, with the items that stand in front.
use Rattle.std.proofs.Common.{◌≡◌, ℕ, zero, suc, ◌+◌, arith, true, List, [], ◌∷◌, ◌++◌, map, take, drop, Some, slice_get, sym, ap, ◌∙◌, subst, append_assoc}
use Rattle.aw_list.specs.Members.{Member}
use Rattle.aw_list.proofs.Members.{member_unmap}
use Rattle.aw_term.specs.Held as P
use Rattle.aw_term.specs.Names.{node_lt}
use Rattle.aw_term.specs.Rules.{Grammar}
use Rattle.aw_term.specs.Trees.{Never}
use Rattle.aw_term.specs.WellFormed.{Each}
use Rattle.aw_term.proofs.NodeOrder.{node-no}
use Rattle.aw_choice.specs.declared.choice.Item.{Item}
use Rattle.aw_choice.specs.ChoiceView.{item_of}
use Rattle.aw_node_list.specs.declared.held.Held.{Held}
use Rattle.aw_node_list.specs.HeldView.{held_of, all_of, state_of}
use Rattle.aw_node_list.specs.InOrder.{IsInOrder}
use Rattle.aw_node_list.proofs.InOrderLemmas.{Up, up_of}
use Rattle.aw_accept.proofs.Fitting.{each_member}
use Rattle.aw_store.specs.Equations.{Map}
use Rattle.aw_law_sites.specs.Worklists.{open_items, site_worklist}
use Rattle.aw_world.proofs.Walking.{up_drop}
use Rattle.aw_world_waits.specs.declared.waiter.Waiter.{Waiter}
use Rattle.aw_world_waits.specs.Waiters.{waited_in}
use Rattle.aw_world_waits.specs.Blocks.{waiter_at}
use Rattle.aw_world_waits.proofs.Groups.{front, split}
use Rattle.aw_world_waits.proofs.Pairing.{own_node, of_worklist}

-- those from a place on
pub drop_here : (hs : List Held) (i : ℕ) (h : Held) → slice_get hs i ≡ Some h → drop i hs ≡ h ∷ drop (i + 1) hs
drop_here [] i h e = absurd cc
drop_here (x ∷ hs) zero h e = let same : x ≡ h = cc in ap (λ y. y ∷ hs) same
drop_here (x ∷ hs) (suc i) h e = let z : suc i + 1 ≡ suc (i + 1) = omega arith in drop_here hs i h e ∙ ap (λ j. h ∷ drop j (x ∷ hs)) (sym z)

differs : (g : Grammar) (h : Held) (later : List Held) → Each (λ k. node_lt h.node k.node ≡ true) later → (q : P.Held) → Member q (all_of g later) → q.node ≡ h.node → Never
differs g h later each q m e =
    let (k, mk, p) = member_unmap (held_of g) q later m in
    node-no h.node (subst (λ n. node_lt h.node n ≡ true) (sym (ap (λ (q : P.Held). q.node) p) ∙ e) (each_member (λ (k : Held). node_lt h.node k.node ≡ true) later k each mk))

module _ (g : Grammar) (k : Map) (nodes : List Held) (up : IsInOrder nodes) (i : ℕ) (h : Held) (here : drop i nodes ≡ h ∷ drop (i + 1) nodes) (rest : List Item)
    (left : map item_of rest ≡ site_worklist g k (all_of g (drop i nodes))) where
  parts : (map item_of (take (front h.node rest) rest) ≡ open_items g (state_of h.done) k (held_of g h))
      × (map item_of (drop (front h.node rest) rest) ≡ site_worklist g k (all_of g (drop (i + 1) nodes)))
  parts =
      let later = drop (i + 1) nodes in
      let ups : Up (h ∷ later) = subst Up here (up_drop i nodes (up_of nodes up)) in
      split h.node (open_items g (state_of h.done) k (held_of g h)) (site_worklist g k (all_of g later)) rest (left ∙ ap (λ hs. site_worklist g k (all_of g hs)) here)
      (λ x m. own_node g (state_of h.done) k (held_of g h) x m)
      (λ x m e. let (q, mq, n) = of_worklist g k (all_of g later) x m in differs g h later ups.0 q mq (sym n ∙ e))

  -- its own items are in front, and those of the later nodes behind them
  pub left_behind : (n : ℕ) (behind : List Item) → n ≡ front h.node rest → behind ≡ drop n rest → map item_of behind ≡ site_worklist g k (all_of g (drop (i + 1) nodes))
  left_behind n behind e is = ap (map item_of) is ∙ ap (λ n. map item_of (drop n rest)) e ∙ parts.1

  pub made_more : (n : ℕ) (own : List Item) (w : Waiter) (old new whole : List Waiter) → n ≡ front h.node rest → own ≡ take n rest →
      w ≡ record { node = h.node; on = waited_in (map item_of own) } → new ≡ old ++ w ∷ []
      → old ++ map (waiter_at g k) (all_of g (drop i nodes)) ≡ whole → new ++ map (waiter_at g k) (all_of g (drop (i + 1) nodes)) ≡ whole
  made_more n own w old new whole e is made more so =
      let items : map item_of own ≡ open_items g (state_of h.done) k (held_of g h) = ap (map item_of) is ∙ ap (λ n. map item_of (take n rest)) e ∙ parts.0 in
      let same : w ≡ waiter_at g k (held_of g h) = made ∙ (λ t. record { node = h.node; on = waited_in (items t) }) in
      ap (λ ws. ws ++ map (waiter_at g k) (all_of g (drop (i + 1) nodes))) more ∙ append_assoc old (w ∷ []) (map (waiter_at g k) (all_of g (drop (i + 1) nodes)))
      ∙ ap (λ w. old ++ w ∷ map (waiter_at g k) (all_of g (drop (i + 1) nodes))) same ∙ ap (λ hs. old ++ map (waiter_at g k) (all_of g hs)) (sym here) ∙ so
