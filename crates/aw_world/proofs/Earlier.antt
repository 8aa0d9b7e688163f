-- Of two workspaces the one whose next node comes first.
use Rattle.std.proofs.Common.{◌≡◌, ℕ, ◌+◌, ◌<◌, ◌≤◌, arith, Bool, true, false, List, refl, subst, Some, None}
use Rattle.aw_list.proofs.Members.{never}
use borrow.Author.Count.{below_more}
use Rattle.aw_term.specs.Names.{Node, node_lt}
use Rattle.aw_term.proofs.NodeOrder.{node_order, node-no}
use Rattle.aw_node_list.specs.declared.held.Held.{Held}
use Rattle.aw_world.specs.declared.workspace.Workspace.{Ghosts}
use Rattle.aw_world.specs.Firsts.{next_of, IsFirst, IsFirstOf}

self_cases : (n : Node) (b : Bool) → node_lt n n ≡ b → b ≡ false
self_cases n true e = let z = node_order.one_way n n e in absurd cc
self_cases n false e = refl

not_self : (n : Node) → node_lt n n ≡ false
not_self n = let z = self_cases n (node_lt n n) refl in z

-- a node is the first of itself
itself : (b : ℕ) (h k : Held) → h ≡ k → IsFirst b h b k
itself b h k e = subst (λ x. IsFirst b h b x) e (record { behind = λ l. not_self h.node; ahead = λ l. absurd (omega (arith, l)) })

module _ {W : Type 0} (f : Ghosts W) (ws : List W) (ps : List ℕ) (best at : ℕ) (low : best ≤ at) (first : IsFirstOf f ws ps at best) where
  abbrev Over : ℕ → ℕ → Type 0
  Over b j = (k : Held) → next_of f ws ps j ≡ Some k → (h : Held) × (next_of f ws ps b ≡ Some h) × IsFirst b h j k

  -- the one before has none left
  pub new_first : (new : Held) → next_of f ws ps best ≡ None → next_of f ws ps at ≡ Some new → IsFirstOf f ws ps (at + 1) at
  new_first new none is j k l e =
      below_more (Over at) at (λ j l k e. let (h, a, i) = first j k l e in absurd cc) (λ k e. let same : new ≡ k = cc in (new, is, itself at new k same)) j l k e

  -- the one before stays the first
  pub old_first : (old new : Held) → next_of f ws ps best ≡ Some old → next_of f ws ps at ≡ Some new → node_lt old.node new.node ≡ true → IsFirstOf f ws ps (at + 1) best
  old_first old new was is before j k l e =
      below_more (Over best) at (λ j l k e. first j k l e) (λ k e.
      let same : new ≡ k = cc in (
        old,
        was,
        record {
          behind = λ le.
              let eq : best ≡ at = omega (arith, le, low) in
              let one : old ≡ new = let z : next_of f ws ps at ≡ Some old = subst (λ n. next_of f ws ps n ≡ Some old) eq was in cc in
              never (node-no new.node (subst (λ x. node_lt x.node new.node ≡ true) one before));
          ahead = λ lt. subst (λ x. node_lt old.node x.node ≡ true) same before;
        },
      )) j l k e

  -- the new one comes before it
  pub new_before : (old new : Held) → next_of f ws ps best ≡ Some old → next_of f ws ps at ≡ Some new → node_lt old.node new.node ≡ false → IsFirstOf f ws ps (at + 1) at
  new_before old new was is after j k l e =
      below_more (Over at) at (λ j l k e.
      let (h, a, i) = first j k l e in
      let same : h ≡ old = cc in
      let x : IsFirst best old j k = subst (λ y. IsFirst best y j k) same i in
      (new, is, record { behind = λ le. node_order.chain k.node old.node new.node (behind_old old j k x) after; ahead = λ lt. absurd (omega (arith, lt, l)) }))
      (λ k e. let same : new ≡ k = cc in (new, is, itself at new k same)) j l k e
    where
      by_place : (old : Held) (j : ℕ) (k : Held) → IsFirst best old j k → (b : Bool) → node_lt k.node old.node ≡ b →
          (best < j → node_lt k.node old.node ≡ false) → (j ≤ best → node_lt k.node old.node ≡ false) → b ≡ false
      by_place old j k x false e far near = refl
      by_place old j k x true e far near =
          let a : best < j → ⊥ = λ l. let z = far l in cc in
          let b : j ≤ best → ⊥ = λ l. let z = near l in cc in
          absurd (b (omega (arith, a)))

      behind_old : (old : Held) (j : ℕ) (k : Held) → IsFirst best old j k → node_lt k.node old.node ≡ false
      behind_old old j k x = by_place old j k x (node_lt k.node old.node) refl (λ l. node_order.one_way old.node k.node (x.ahead l)) (λ l. x.behind l)
