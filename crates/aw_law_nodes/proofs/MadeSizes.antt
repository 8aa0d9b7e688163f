-- What choices make has its sizes: the names of nodes and references, and the numbers and texts in equations.
use Rattle.std.specs.Prelude.{slice_get, option_and_then, nat_eq, nat_lt, ◌&&◌}
use Rattle.std.proofs.Common.{◌≡◌, ℕ, suc, ◌+◌, ◌<◌, ◌≤◌, ◌^◌, Bool, true, false, cond, List, [], ◌∷◌, ◌++◌, map, length, Option, Some, None, refl, sym, subst, inl, inr, arith, length-append}
use Rattle.std.proofs.lemmas.Bool.{eqb-false, lt-ltb}
use Rattle.std.proofs.lemmas.Option.{same_Some, slice_get_within}
use Rattle.aw_list.specs.Members.{Member}
use Rattle.aw_list.proofs.Members.{member_got, member_split, member_unmap, never}
use Rattle.aw_term.specs.Choices.{Choice, Start, Develop, Outcome, Refused, Starts, Takes, TooDeep, Arguments, NotItsRule, deep, after_guard}
use Rattle.aw_term.specs.Configs.{State, Pending, Done}
use Rattle.aw_term.specs.Held.{Held, held_of, insert_held, mark}
use Rattle.aw_term.specs.Matching.{Matched, Yes, Waits, Differs, Circle}
use Rattle.aw_term.specs.Names.{Node, Ref, below, part}
use Rattle.aw_term.specs.Rules.{Child, Grammar, Ground, Rule, Term, get}
use Rattle.aw_term.specs.Trees.{Leaf, Made, More, Never, Nil, Tree, Trees}
use Rattle.aw_term.specs.WellFormed.{Each}
use Rattle.aw_accept.proofs.Fitting.{each_member}
use Rattle.aw_codec.specs.Ranges.{HeadSized, GroundSized, PartsSized, ChoiceSized}
use Rattle.aw_store.specs.Equations.{Body, Equation, Is, Map, Same}
use Rattle.aw_apply.specs.Guard.{guard_all}
use Rattle.aw_apply.specs.Made.{child_refs, lay, lay_children, lay_list, lay_result, lay_results, lays, made}
use Rattle.aw_law_sites.specs.Joint.{Joint, add_made, by_held, by_rule, by_state, called_held, empty_joint, joint_outcome, joint_run, joint_taken, root_held}
use Rattle.aw_law_sites.proofs.AnyOrders.{Member-insert_all, Member-insert_held, marked, takes}
use Rattle.aw_law_worlds.proofs.MadeHeads.{kid-many}
use Rattle.aw_law_nodes.specs.Sizes.{TreeSized, TreesSized, RuleSized, GrammarSized}

-- the case of a node has eight bytes, and it has at most 250 steps
abbrev pub IsSmall : Node → Type 0
IsSmall n = (n.case < 2 ^ 64) × (length n.steps ≤ 250)

-- the head of a body has its size
abbrev pub HeadFits : Body → Type 0
HeadFits (Same r) = Unit {0}
HeadFits (Is h rs) = HeadSized h

-- ---- what a rule makes

-- equations of this node, whose heads have their sizes
abbrev AllAt : Node → List Equation → Type 0
AllAt n es = (e : Equation) → Member e es → (e.left.node ≡ n) × HeadFits e.body

at-both : (n : Node) (es fs : List Equation) → AllAt n es → AllAt n fs → AllAt n (es ++ fs)
at-both n es fs a b e m = elim (member_split e es fs m) [ inl o ↦ a e o | inr o ↦ b e o ]

module _ {L : Type 0} (n : Node) (f : L → Ref) where
  mutual
    lay-at : (t : Tree L) (i : ℕ) → TreeSized t → AllAt n (lay n f i t).equations
    lay-at (Leaf x) i h = λ e m. never m
    lay-at (Made c ts) i h = λ e m. elim m [
      | inl z ↦ subst (λ (e : Equation). (e.left.node ≡ n) × HeadFits e.body) (sym z) (refl, h.0)
      | inr o ↦ lays-at ts (suc i) h.1 e o
    ]

    lays-at : (ts : Trees L) (i : ℕ) → TreesSized ts → AllAt n (lays n f i ts).equations
    lays-at Nil i h = λ e m. never m
    lays-at (More t ts) i h = at-both n (lay n f i t).equations (lays n f (lay n f i t).next ts).equations (lay-at t i h.0) (lays-at ts (lay n f i t).next h.1)

  list-at : (ts : List (Tree L)) (i : ℕ) → Each TreeSized ts → AllAt n (lay_list n f i ts).equations
  list-at [] i h = λ e m. never m
  list-at (t ∷ ts) i h = at-both n (lay n f i t).equations (lay_list n f (lay n f i t).next ts).equations (lay-at t i h.0) (list-at ts (lay n f i t).next h.1)

module _ (n : Node) (ri : ℕ) (f : ℕ → Ref) where
  kids-at : (cs : List Child) (i k : ℕ) → Each (λ (c : Child). Each TreeSized c.args) cs → AllAt n (lay_children n ri f i k cs).equations
  kids-at [] i k h = λ e m. never m
  kids-at (d ∷ cs) i k h = at-both n (lay_list n f k d.args).equations (lay_children n ri f (suc i) (lay_list n f k d.args).next cs).equations
      (list-at n f d.args k h.0) (kids-at cs (suc i) (lay_list n f k d.args).next h.1)

  result-at : (t : Term) (k j : ℕ) → TreeSized t → AllAt n (lay_result n f k j t).equations
  result-at (Leaf v) k j h e m = elim m [ inl z ↦ subst (λ (e : Equation). (e.left.node ≡ n) × HeadFits e.body) (sym z) (refl, tt) | inr z ↦ never z ]
  result-at (Made c ts) k j h e m = elim m [
    | inl z ↦ subst (λ (e : Equation). (e.left.node ≡ n) × HeadFits e.body) (sym z) (refl, h.0)
    | inr o ↦ lays-at n f ts k h.1 e o
  ]

  results-at : (ts : List Term) (k j : ℕ) → Each TreeSized ts → AllAt n (lay_results n f k j ts)
  results-at [] k j h = λ e m. never m
  results-at (t ∷ ts) k j h = at-both n (lay_result n f k j t).equations (lay_results n f (lay_result n f k j t).next (suc j) ts)
      (result-at t k j h.0) (results-at ts (lay_result n f k j t).next (suc j) h.1)

-- an argument has its sizes as a tree
mutual
  ground-tree : (t : Ground) → GroundSized t → TreeSized t
  ground-tree (Leaf x) h = tt
  ground-tree (Made c ts) h = (h.0, ground-trees ts h.1)

  ground-trees : (ts : Trees Never) → PartsSized ts → TreesSized ts
  ground-trees Nil h = tt
  ground-trees (More t ts) h = (ground-tree t h.0, ground-trees ts h.1)

all-trees : (ts : List Ground) → Each GroundSized ts → Each TreeSized ts
all-trees [] h = tt
all-trees (t ∷ ts) h = (ground-tree t h.0, all-trees ts h.1)

made-at : (n : Node) (ri : ℕ) (rule : Rule) (args : List Ground) (bound : List Ref) → Each GroundSized args → RuleSized rule → AllAt n (made n ri rule args bound).equations
made-at n ri rule args bound h k =
    let a = lay_list n (λ x. elim x [ ]) 1 args in
    let f = get (part n 0) (bound ++ (a.roots ++ child_refs n ri 1 rule.children)) in
    let c = lay_children n ri f 1 a.next rule.children in
    at-both n a.equations (c.equations ++ lay_results n f c.next 1 rule.results) (list-at n (λ (x : Never). elim x [ ]) args 1 (all-trees args h))
    (at-both n c.equations (lay_results n f c.next 1 rule.results) (kids-at n ri f rule.children 1 a.next k.children) (results-at n ri f rule.results c.next 1 k.results))

-- ---- a taken rule is not too deep

shallow-guard : (n : Node) (q rule : Rule) (o : Matched Ref Ref) (bound : List Ref) → after_guard n q o ≡ Takes rule bound → deep n rule ≡ false
shallow-guard n q rule (Yes xs) bound e = go (deep n q) refl e
  where
    same-rule : {r s : Rule} {xs ys : List Ref} → (◌≡◌ {A = Outcome Ref Ref} (Takes r xs) (Takes s ys)) → r ≡ s
    same-rule e = cc

    go : (b : Bool) → deep n q ≡ b → cond {A = Outcome Ref Ref} b (Refused TooDeep) (Takes q xs) ≡ Takes rule bound → deep n rule ≡ false
    go true d e = absurd cc
    go false d e = subst (λ (r : Rule). deep n r ≡ false) (same-rule e) d
shallow-guard n q rule (Waits r) bound e = absurd cc
shallow-guard n q rule (Differs p) bound e = absurd cc
shallow-guard n q rule (Circle r) bound e = absurd cc

shallow-rule : (o : Option Rule) (k : Map) (n : Node) (args : List Ground) (h : Held) (rule : Rule) (bound : List Ref) → by_rule o k n args h ≡ Takes rule bound → deep n rule ≡ false
shallow-rule None k n args h rule bound e = absurd cc
shallow-rule (Some q) k n args h rule bound e = go (nat_eq q.sort h.sort) (nat_eq (length args) q.params) e
  where
    go : (a b : Bool) → cond {A = Outcome Ref Ref} a (cond b (after_guard n q (guard_all k 1 q.patterns h.inherited)) (Refused Arguments)) (Refused NotItsRule) ≡ Takes rule bound → deep n rule ≡ false
    go true true e = shallow-guard n q rule (guard_all k 1 q.patterns h.inherited) bound e
    go true false e = absurd cc
    go false b e = absurd cc

shallow-state : (s : State) (g : Grammar) (k : Map) (n : Node) (r : ℕ) (args : List Ground) (h : Held) (rule : Rule) (bound : List Ref) →
    by_state s g k n r args h ≡ Takes rule bound → deep n rule ≡ false
shallow-state (Done a b) g k n r args h rule bound e = absurd cc
shallow-state Pending g k n r args h rule bound e = shallow-rule (slice_get g.rules r) k n args h rule bound e

shallow : (o : Option Held) (g : Grammar) (k : Map) (n : Node) (r : ℕ) (args : List Ground) (rule : Rule) (bound : List Ref) → by_held o g k n r args ≡ Takes rule bound → deep n rule ≡ false
shallow None g k n r args rule bound e = absurd cc
shallow (Some h) g k n r args rule bound e = shallow-state h.state g k n r args h rule bound e

-- so a child's name is not too long
below-small : (n : Node) (rule : Rule) (r i : ℕ) → IsSmall n → deep n rule ≡ false → 0 < length rule.children → IsSmall (below n r i)
below-small n rule r i s d some =
    let l = length-append n.steps (record { rule = r; child = i } ∷ []) in
    let few = s.1 in
    let less = go (nat_eq (length n.steps) 250) (nat_lt 0 (length rule.children)) refl refl d in
    (s.0, omega (arith, l, few, less))
  where
    go : (a b : Bool) → nat_eq (length n.steps) 250 ≡ a → nat_lt 0 (length rule.children) ≡ b → (a && b) ≡ false → length n.steps < 250
    go true true p q d = absurd cc
    go true false p q d = absurd (let z = lt-ltb 0 (length rule.children) some in cc)
    go false b p q d = let z = eqb-false (length n.steps) 250 p in let few = s.1 in omega (arith, z, few)

-- ---- all that choices made

pub record Sizes (x : Joint) : Type 0 where
  pub held : (h : Held) → Member h x.held → IsSmall h.node
  pub equations : (e : Equation) → Member e x.equations → IsSmall e.left.node × HeadFits e.body

module _ (g : Grammar) (sized : GrammarSized g) where
  sizes-start : (x : Joint) (s k : ℕ) → k < 2 ^ 64 → Sizes x → Sizes (record x { held = insert_held (root_held s k) x.held })
  sizes-start x s k l S = record {
    held = λ h m. elim (Member-insert_held h (root_held s k) x.held m) [
      | inl p ↦ subst (λ (h : Held). IsSmall h.node) (sym p) (l, omega arith)
      | inr o ↦ S.held h o
    ];
    equations = S.equations;
  }

  sizes-taken : (x : Joint) (n : Node) (ri : ℕ) (args : List Ground) (rule : Rule) (bound : List Ref) → Each GroundSized args → joint_outcome x g (Develop n ri args) ≡ Takes rule bound → Sizes x
      → Sizes (add_made x n (Done ri args) (made n ri rule args bound))
  sizes-taken x n ri args rule bound a e S =
      let T = takes g x n ri args rule bound e in
      let small : IsSmall n = subst IsSmall T.node (S.held T.held T.is_held) in
      let d = shallow (held_of n x.held) g x.equations n ri args rule bound e in
      let r = each_member RuleSized g.rules rule sized (member_got g.rules ri rule T.rule_is) in
      record {
        held = λ h m. elim (Member-insert_all h (map called_held (made n ri rule args bound).calls) (map (mark n (Done ri args)) x.held) m) [
          | inl o ↦
              (let (c, j, p) = member_unmap called_held h (made n ri rule args bound).calls o in
              let (i, k, f, nd, so, l) = kid-many g n ri _ rule.children 1 _ c j in
              let some = slice_get_within rule.children i k f in
              subst (λ (h : Held). IsSmall h.node) (sym p) (subst IsSmall (sym nd) (below-small n rule ri (1 + i) small d (omega (arith, some)))))
          | inr o ↦
              (let (q, j, p) = member_unmap (mark n (Done ri args)) h x.held o in
              subst (λ (h : Held). IsSmall h.node) (sym p) (subst IsSmall (sym (marked n (Done ri args) q).0) (S.held q j)))
        ];
        equations = λ e m. elim (member_split e x.equations (made n ri rule args bound).equations m) [
          | inl o ↦ S.equations e o
          | inr o ↦ (let (nd, hd) = made-at n ri rule args bound a r e o in (subst IsSmall (sym nd) small, hd))
        ];
      }

  sizes-on : (x y : Joint) (c : Choice) → ChoiceSized c → Sizes x → (o : Outcome Ref Ref) → joint_outcome x g c ≡ o → joint_taken x c o ≡ Some y → Sizes y
  sizes-on x y c k S (Refused a) e t = absurd cc
  sizes-on x y (Start s n) k S Starts e t = subst Sizes (same_Some _ _ t) (sizes-start x s n k.1 S)
  sizes-on x y (Start s n) k S (Takes rule bound) e t = absurd cc
  sizes-on x y (Develop n ri args) k S Starts e t = absurd cc
  sizes-on x y (Develop n ri args) k S (Takes rule bound) e t = subst Sizes (same_Some _ _ t) (sizes-taken x n ri args rule bound k.2 e S)

  sizes-run : (cs : List Choice) (x y : Joint) → Each ChoiceSized cs → Sizes x → joint_run g x cs ≡ Some y → Sizes y
  sizes-run [] x y k S e = subst Sizes (same_Some _ _ e) S
  sizes-run (c ∷ cs) x y k S e = go (joint_taken x c (joint_outcome x g c)) refl e (λ v V f. sizes-run cs v y k.1 V f)
    where
      go : (o : Option Joint) → joint_taken x c (joint_outcome x g c) ≡ o → option_and_then (λ v. joint_run g v cs) o ≡ Some y → ((v : Joint) → Sizes v → joint_run g v cs ≡ Some y → Sizes y) → Sizes y
      go None t e f = absurd cc
      go (Some v) t e f = f v (sizes-on x v c k.0 S (joint_outcome x g c) refl t) e

  -- whatever such choices lead to
  pub all_sizes : (cs : List Choice) (x : Joint) → Each ChoiceSized cs → joint_run g empty_joint cs ≡ Some x → Sizes x
  all_sizes cs x k e = sizes-run cs empty_joint x k (record { held = λ h m. never m; equations = λ e m. never m }) e
