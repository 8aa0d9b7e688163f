-- The place of a held node tells whether it is held as developed.
use Rattle.std.proofs.Common.{◌≡◌, ℕ, suc, Bool, true, false, cond, List, [], ◌∷◌, Option, Some, None, slice_get, refl, sym, ap, ◌∙◌}
use Rattle.std.specs.Prelude.{option_map, is_some}
use Rattle.std.proofs.lemmas.Option.{same_Some}
use Rattle.aw_term.specs.Names.{Node, node_eq}
use Rattle.aw_term.specs.Rules.{Grammar}
use Rattle.aw_choice.specs.declared.choice.Choice.{Choice}
use Rattle.aw_choice.specs.declared.choice.Choice.TheVariants.{Start, Develop}
use Rattle.aw_node_list.specs.declared.held.Held.{Held}
use Rattle.aw_node_list.specs.HeldView.{all_of, state_of}
use Rattle.aw_node_list.specs.InOrder.{place_in}
use Rattle.aw_world_waits.specs.Waiters.{is_done, holds_done}

state_done : (done : Option Choice) → is_some done ≡ is_done (state_of done)
state_done None = refl
state_done (Some (Start sort case)) = refl
state_done (Some (Develop node rule args)) = refl

-- a node that is not held is not held as developed
pub not_held : (g : Grammar) (n : Node) (hs : List Held) → place_in n hs ≡ None → false ≡ holds_done n (all_of g hs)
not_held g n [] e = refl
not_held g n (h ∷ hs) e = go (node_eq n h.node) (place_in n hs) e (not_held g n hs)
  where
    go : (b : Bool) (o : Option ℕ) → cond b (Some 0) (option_map suc o) ≡ None → (o ≡ None → false ≡ holds_done n (all_of g hs)) →
        false ≡ cond b (is_done (state_of h.done)) (holds_done n (all_of g hs))
    go true o i f = absurd cc
    go false None i f = f refl
    go false (Some at) i f = absurd cc

-- a held node is held as developed where a choice is noted at its place
pub held_there : (g : Grammar) (n : Node) (hs : List Held) (at : ℕ) (h : Held) → place_in n hs ≡ Some at → slice_get hs at ≡ Some h → is_some h.done ≡ holds_done n (all_of g hs)
held_there g n [] at h e is = absurd cc
held_there g n (k ∷ hs) at h e is = go (node_eq n k.node) (place_in n hs) e (λ j. held_there g n hs j h)
  where
    go : (b : Bool) (o : Option ℕ) → cond b (Some 0) (option_map suc o) ≡ Some at → ((j : ℕ) → o ≡ Some j → slice_get hs j ≡ Some h → is_some h.done ≡ holds_done n (all_of g hs))
        → is_some h.done ≡ cond b (is_done (state_of k.done)) (holds_done n (all_of g hs))
    go true o i f =
        let same : k ≡ h = same_Some k h (ap (slice_get (k ∷ hs)) (same_Some 0 at i) ∙ is) in
        state_done h.done ∙ ap (λ (k : Held). is_done (state_of k.done)) (sym same)
    go false None i f = absurd cc
    go false (Some j) i f = f j refl (ap (slice_get (k ∷ hs)) (same_Some (suc j) at i) ∙ is)
