-- The dependence relation of a grammar: which results of a sort depend on which of its inherited values.
use Rattle.std.specs.Prelude.{◌≡◌, ℕ, zero, suc, Bool, IsTrue, Option, Some, None, ◌⊎◌}
use Rattle.aw_list.specs.Members.{Member}
use Rattle.aw_term.specs.Trees.{Never, In}
use Rattle.aw_term.specs.Rules.{Term, Child, Rule, Grammar, get, child_at}
use Rattle.aw_iograph.specs.declared.occ.Occ.{Occ}
use Rattle.aw_iograph.specs.Graphs.{Plus}
use Rattle.aw_iograph.specs.Occurrences.{inherited, given, entries, term_at, IsUpTo}

-- for each sort, pairs of an inherited value and a result, both counted from 1
abbrev pub Relation : Type 1
Relation = ℕ → ℕ → ℕ → Type 0

-- the relation of the pairs that a test lets pass
abbrev pub passed : (ℕ → ℕ → ℕ → Bool) → ℕ → ℕ → ℕ → Type 0
passed test s i j = IsTrue (test s i j)

-- each pair of one relation is one of another
abbrev pub IsHeldBy : (ℕ → ℕ → ℕ → Type 0) → (ℕ → ℕ → ℕ → Type 0) → Type 0
IsHeldBy rel other = (s i j : ℕ) → rel s i j → other s i j

-- a variable enters at o, and the term at u uses it
abbrev pub IsTextEdge : Rule → Occ → Occ → Type 0
IsTextEdge r o u = (v : ℕ) × (t : Term) × (get None (entries r) v ≡ Some o) × (term_at r u ≡ Some t) × In v t

-- one step within a rule: from where a variable enters to an occurrence whose term uses it, or at a child from an inherited value to a result that depends on it
pub data Edge (r : Rule) (rel : ℕ → ℕ → ℕ → Type 0) : Occ → Occ → Type 0 where
  text : {o u : Occ} → (v : ℕ) → (t : Term) → get None (entries r) v ≡ Some o → term_at r u ≡ Some t → In v t → Edge r rel o u
  call : (k i l : ℕ) → (c : Child) → child_at r.children k ≡ Some c → rel c.sort i l → Edge r rel (inherited k i) (given k l)

-- in a rule of sort s, result j of the left side is reached from inherited value i
abbrev pub Walk : Grammar → Relation → ℕ → ℕ → ℕ → Type 0
Walk g rel s i j = (r : Rule) × Member r g.rules × (r.sort ≡ s) × Plus (Edge r rel) (inherited 0 i) (given 0 j)

-- after h rounds: the pairs with a walk over the pairs of the round before
abbrev pub io : Grammar → ℕ → ℕ → ℕ → ℕ → Type 0
io g zero s i j = Never
io g (suc h) s i j = Walk g (io g h) s i j

-- the dependence relation: the pairs of all rounds
abbrev pub IO : Grammar → ℕ → ℕ → ℕ → Type 0
IO g s i j = (h : ℕ) × io g h s i j

-- the same from a relation that is given: each round keeps the pairs of the round before
abbrev pub io_from : Grammar → (ℕ → ℕ → ℕ → Type 0) → ℕ → ℕ → ℕ → ℕ → Type 0
io_from g seed zero s i j = seed s i j
io_from g seed (suc h) s i j = io_from g seed h s i j ⊎ Walk g (io_from g seed h) s i j

-- what follows from a relation that is given
abbrev pub Follows : Grammar → (ℕ → ℕ → ℕ → Type 0) → ℕ → ℕ → ℕ → Type 0
Follows g seed s i j = (h : ℕ) × io_from g seed h s i j

-- a rule has no walk beyond the relation
abbrev pub IsKept : (ℕ → ℕ → ℕ → Type 0) → Rule → Type 0
IsKept rel r = (i j : ℕ) → Plus (Edge r rel) (inherited 0 i) (given 0 j) → rel r.sort i j

-- no rule has
abbrev pub IsClosedUnder : Grammar → (ℕ → ℕ → ℕ → Type 0) → Type 0
IsClosedUnder g rel = (r : Rule) → Member r g.rules → IsKept rel r

-- a relation lies in each that holds a seed and is closed under the rules, here of those that a test decides
abbrev pub IsLeastFrom : (ℕ → ℕ → ℕ → Type 0) → Grammar → (ℕ → ℕ → ℕ → Type 0) → Type 0
IsLeastFrom seed g rel = (test : ℕ → ℕ → ℕ → Bool) → IsHeldBy seed (passed test) → IsClosedUnder g (passed test) → IsHeldBy rel (passed test)

-- an occurrence of the rule reaches itself
abbrev pub IsOnCircle : (ℕ → ℕ → ℕ → Type 0) → Rule → Occ → Type 0
IsOnCircle rel r o = Plus (Edge r rel) o o

-- the least occurrence on a circle, or none where no occurrence is on one
abbrev pub LeastOnCircle : (ℕ → ℕ → ℕ → Type 0) → Rule → Option Occ → Type 0
LeastOnCircle rel r None = (o : Occ) → IsOnCircle rel r o → Never
LeastOnCircle rel r (Some o) = IsOnCircle rel r o × ((u : Occ) → IsOnCircle rel r u → IsUpTo o u)

-- in no rule does an occurrence reach itself
abbrev pub HasNoCircle : Grammar → (ℕ → ℕ → ℕ → Type 0) → Type 0
HasNoCircle g rel = (r : Rule) → Member r g.rules → (o : Occ) → IsOnCircle rel r o → Never
