-- What a taken rule makes: its flat equations, and its children with their inherited references.
use Rattle.std.specs.Prelude.{ℕ, suc, List, [], ◌∷◌, ◌++◌, map}
use Rattle.aw_term.specs.Trees.{Tree, Leaf, Made, Trees, Nil, More}
use Rattle.aw_term.specs.Names.{Node, Ref, below, result, part}
use Rattle.aw_term.specs.Rules.{Term, Ground, Child, Rule, get, upto}
use Rattle.aw_store.specs.Equations.{Same, Is, Equation}

-- What is laid down as equations of parts: the references that stand for it, the equations, and the next part number.
pub record Laid (A : Type 0) : Type 0 where
  pub roots : A
  pub equations : List Equation
  pub next : ℕ

-- A tree laid down at node n from part k on, each symbol before its parts. A leaf stands as its own reference and takes no number.
abbrev mutual
  pub lay : {L : Type 0} → Node → (L → Ref) → ℕ → Tree L → Laid Ref
  lay n f k (Leaf x) = record { roots = f x; equations = []; next = k }
  lay n f k (Made h ts) =
      let a = lays n f (suc k) ts in
      record { roots = part n k; equations = record { left = part n k; body = Is h a.roots } ∷ a.equations; next = a.next }

  pub lays : {L : Type 0} → Node → (L → Ref) → ℕ → Trees L → Laid (List Ref)
  lays n f k Nil = record { roots = []; equations = []; next = k }
  lays n f k (More t ts) =
      let a = lay n f k t in
      let b = lays n f a.next ts in
      record { roots = a.roots ∷ b.roots; equations = a.equations ++ b.equations; next = b.next }

-- some trees laid down at node n from part k on, one behind the other
abbrev pub lay_list : {L : Type 0} → Node → (L → Ref) → ℕ → List (Tree L) → Laid (List Ref)
lay_list n f k [] = record { roots = []; equations = []; next = k }
lay_list n f k (t ∷ ts) =
    let a = lay n f k t in
    let b = lay_list n f a.next ts in
    record { roots = a.roots ∷ b.roots; equations = a.equations ++ b.equations; next = b.next }

-- a child with what it inherits
pub record Call : Type 0 where
  pub node : Node
  pub sort : ℕ
  pub inherited : List Ref

-- the arguments of the children of rule r from child i on
abbrev pub lay_children : Node → ℕ → (ℕ → Ref) → ℕ → ℕ → List Child → Laid (List Call)
lay_children n r f i k [] = record { roots = []; equations = []; next = k }
lay_children n r f i k (c ∷ cs) =
    let a = lay_list n f k c.args in
    let b = lay_children n r f (suc i) a.next cs in
    record { roots = record { node = below n r i; sort = c.sort; inherited = a.roots } ∷ b.roots; equations = a.equations ++ b.equations; next = b.next }

-- Result j has an equation: it is the reference of a lone variable, or the symbol itself, whose parts are laid down from part k on.
abbrev pub lay_result : Node → (ℕ → Ref) → ℕ → ℕ → Term → Laid (Unit {0})
lay_result n f k j (Leaf v) = record { roots = tt; equations = record { left = result n j; body = Same (f v) } ∷ []; next = k }
lay_result n f k j (Made h ts) =
    let a = lays n f k ts in
    record { roots = tt; equations = record { left = result n j; body = Is h a.roots } ∷ a.equations; next = a.next }

-- the results from result j on
abbrev pub lay_results : Node → (ℕ → Ref) → ℕ → ℕ → List Term → List Equation
lay_results n f k j [] = []
lay_results n f k j (t ∷ ts) =
    let a = lay_result n f k j t in
    a.equations ++ lay_results n f a.next (suc j) ts

-- the results of the children of rule r from child k on, in order
abbrev pub child_refs : Node → ℕ → ℕ → List Child → List Ref
child_refs n r k [] = []
child_refs n r k (c ∷ cs) = map (result (below n r k)) (upto 1 c.outs) ++ child_refs n r (suc k) cs

-- the equations of a taken rule, and the calls of its children
pub record Making : Type 0 where
  pub equations : List Equation
  pub calls : List Call

-- no variable of a well-formed rule is without a reference
abbrev pub no_ref : Node → Ref
no_ref n = part n 0

-- Rule number r is taken on n, with the references that its patterns bind. Parts are numbered from 1 over the arguments, the arguments of
-- the children, and the results. Variables stand for the bound references, the roots of the arguments, and the results of the children.
abbrev pub made : Node → ℕ → Rule → List Ground → List Ref → Making
made n r rule args bound =
    let a = lay_list n (λ x. elim x [ ]) 1 args in
    let refs = bound ++ (a.roots ++ child_refs n r 1 rule.children) in
    let c = lay_children n r (get (no_ref n) refs) 1 a.next rule.children in
    record { equations = a.equations ++ (c.equations ++ lay_results n (get (no_ref n) refs) c.next 1 rule.results); calls = c.roots }
