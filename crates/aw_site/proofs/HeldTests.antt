-- Held nodes of the program, found as plain ones.
use Rattle.std.proofs.Common.{◌≡◌, ℕ, true, false, cond, List, Some, None, slice_get, ap, sym, ◌∙◌}
use Rattle.std.proofs.lemmas.Option.{same_Some}
use Rattle.aw_term.specs.Names.{Node, Ref}
use Rattle.aw_term.specs.Rules.{Grammar}
use Rattle.aw_term.specs.Held as P
use Rattle.aw_apply.specs.Messages.{OfNode}
use Rattle.aw_node_list.specs.declared.held.Held.{Held}
use Rattle.aw_node_list.specs.HeldView.{held_of, all_of}
use Rattle.aw_node_list.specs.InOrder.{place_in}
use Rattle.aw_node_list.proofs.HeldViews.{held_nowhere, held_here}
use Rattle.aw_law_sites.specs.Receiving.{refs_eq, call_clash}
use Rattle.aw_space.specs.Spaces.{call_of}

pub nowhere_free : (g : Grammar) (n : Node) (rs : List Ref) (hs : List Held) → place_in n hs ≡ None → None ≡ call_clash (P.held_of n (all_of g hs)) (call_of g n rs) None
nowhere_free g n rs hs e = ap (λ o. call_clash o (call_of g n rs) None) (sym (held_nowhere g n hs e))

here_as : (g : Grammar) (n : Node) (hs : List Held) (i : ℕ) (h : Held) → place_in n hs ≡ Some i → slice_get hs i ≡ Some h → P.held_of n (all_of g hs) ≡ Some (held_of g h)
here_as g n hs i h e at =
    let w = held_here g n hs i e in
    w.3 ∙ ap (λ k. Some (held_of g k)) (same_Some _ _ (sym w.1 ∙ at))

pub here_free : (g : Grammar) (n : Node) (rs : List Ref) (hs : List Held) (i : ℕ) (h : Held) → place_in n hs ≡ Some i → slice_get hs i ≡ Some h →
    refs_eq h.inherited rs ≡ true → None ≡ call_clash (P.held_of n (all_of g hs)) (call_of g n rs) None
here_free g n rs hs i h e at same =
    sym (ap (λ b. cond b None (Some (record { kept = OfNode h.inherited; came = OfNode rs }))) same)
    ∙ ap (λ o. call_clash o (call_of g n rs) None) (sym (here_as g n hs i h e at))

pub here_clash : (g : Grammar) (n : Node) (rs : List Ref) (hs : List Held) (i : ℕ) (h : Held) (kept came : List Ref) → place_in n hs ≡ Some i →
    slice_get hs i ≡ Some h → refs_eq h.inherited rs ≡ false → kept ≡ h.inherited → came ≡ rs
    → Some (record { kept = OfNode kept; came = OfNode came }) ≡ call_clash (P.held_of n (all_of g hs)) (call_of g n rs) None
here_clash g n rs hs i h kept came e at other k c =
    (λ j. Some (record { kept = OfNode (k j); came = OfNode (c j) }))
    ∙ sym (ap (λ b. cond b None (Some (record { kept = OfNode h.inherited; came = OfNode rs }))) other)
    ∙ ap (λ o. call_clash o (call_of g n rs) None) (sym (here_as g n hs i h e at))
