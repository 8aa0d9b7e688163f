-- When two names of nodes are one.
use Rattle.std.specs.Prelude.{◌≡◌, ◌&&◌, Bool, true, false, List, [], ◌∷◌, nat_eq}
use Rattle.std.specs.Bool.{Decides}
use Rattle.std.proofs.Common.{refl, ap, subst, eq-eqb}
use Rattle.std.proofs.lemmas.Bool.{eqb-true, and_parts, and_from}
use Rattle.std.proofs.lemmas.Bool.Decides.{Decides-eqb, Decides-and, Decides-like, same_from_decides}
use Rattle.aw_name.specs.contracts.node.NodePartialEq.TheImpl as node
use Rattle.aw_name.specs.declared.node.Step.{Step}
use Rattle.aw_name.specs.declared.node.Node.{Node}
use Rattle.aw_name.specs.Same.{steps_Decide}

-- whether the steps of two nodes are the same
abbrev pub steps_eq : List Step → List Step → Bool
steps_eq [] [] = true
steps_eq (a ∷ xs) (b ∷ ys) = nat_eq a.rule b.rule && (nat_eq a.child b.child && steps_eq xs ys)
steps_eq _ _ = false

-- whether two nodes are one: the same start sort, the same case and the same steps
abbrev pub node_eq : Node → Node → Bool
node_eq a b = nat_eq a.start b.start && (nat_eq a.case b.case && steps_eq a.steps b.steps)

-- steps of which the test says that they are the same are the same
steps_are : (a b : List Step) → steps_eq a b ≡ true → a ≡ b
steps_are [] [] e = refl
steps_are [] (y ∷ ys) e = absurd cc
steps_are (x ∷ xs) [] e = absurd cc
steps_are (x ∷ xs) (y ∷ ys) e =
    let (r, f) = and_parts _ _ e in
    let (c, g) = and_parts _ _ f in
    let p = eqb-true x.rule y.rule r in
    let q = eqb-true x.child y.child c in
    let s = steps_are xs ys g in
    λ i. record { rule = p i; child = q i } ∷ s i

-- and so for nodes
pub node_is : (a b : Node) → node_eq a b ≡ true → a ≡ b
node_is a b e =
    let (s, f) = and_parts _ _ e in
    let (c, g) = and_parts _ _ f in
    let p = eqb-true a.start b.start s in
    let q = eqb-true a.case b.case c in
    let t = steps_are a.steps b.steps g in
    λ i. record { start = p i; case = q i; steps = t i }

-- steps are the same as themselves
steps_self : (a : List Step) → steps_eq a a ≡ true
steps_self [] = refl
steps_self (x ∷ xs) = and_from _ _ (eq-eqb x.rule x.rule refl) (and_from _ _ (eq-eqb x.child x.child refl) (steps_self xs))

-- and so is a node
pub node_self : (a : Node) → node_eq a a ≡ true
node_self a = and_from _ _ (eq-eqb a.start a.start refl) (and_from _ _ (eq-eqb a.case a.case refl) (steps_self a.steps))

-- this test tells whether two nodes are one
pub node_Decides : (a b : Node) → Decides (node_eq a b) (a ≡ b)
node_Decides a b = (node_is a b, λ e. subst (λ n. node_eq a n ≡ true) e (node_self a))

-- the derived test of nodes tells it too
pub derived_node_Decides : (a b : Node) → Decides ((node.ghosts).eq a b) (a ≡ b)
derived_node_Decides a b =
    Decides-like _ (λ p. λ i. record { start = p.0 i; case = p.1.0 i; steps = p.1.1 i })
    (λ e. (ap (λ (s : Node). s.start) e, (ap (λ (s : Node). s.case) e, ap (λ (s : Node). s.steps) e)))
    (Decides-and _ _ (Decides-eqb a.start b.start) (Decides-and _ _ (Decides-eqb a.case b.case) (steps_Decide a.steps b.steps)))

-- so it is this one
pub node_same : (a b : Node) → (node.ghosts).eq a b ≡ node_eq a b
node_same a b = same_from_decides _ _ (derived_node_Decides a b) (node_Decides a b)
