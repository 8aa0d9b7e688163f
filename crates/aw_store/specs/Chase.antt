-- Chasing: from a reference through equations that name another one.
use Rattle.std.specs.Prelude.{ℕ, zero, suc, List, length, Option, Some, None}
use Rattle.aw_term.specs.Trees.{Head}
use Rattle.aw_term.specs.Names.{Ref}
use Rattle.aw_store.specs.Equations.{Body, Same, Is, Map, find}

-- what a chase comes to: a body, a reference without an equation, or a circle
pub data Chased : Type 0 where
  Found : (head : Head) → (parts : List Ref) → Chased
  Missing : (at : Ref) → Chased
  Round : Chased

-- what the chase from a reference comes to, where this is its body, or it has no equation, and `go` chases on
abbrev pub chase_on : (Ref → Chased) → Ref → Option Body → Chased
chase_on go r None = Missing r
chase_on go r (Some (Is h rs)) = Found h rs
chase_on go r (Some (Same s)) = go s

-- at most n times
abbrev pub chase_in : ℕ → Map → Ref → Chased
chase_in zero k r = chase_on (λ s. Round) r (find k r)
chase_in (suc n) k r = chase_on (chase_in n k) r (find k r)

-- at most as many times as there are equations
abbrev pub chase : Map → Ref → Chased
chase k r = chase_in (length k) k r
