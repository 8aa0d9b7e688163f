-- Guards: matching patterns with references over equations.
use Rattle.std.specs.Prelude.{ℕ, suc, ◌&&◌, List, [], ◌∷◌, length, nat_eq, if◌then◌else◌}
use Rattle.aw_term.specs.Trees.{Head, Leaf, Made, Trees, Nil, More, count, head_eq}
use Rattle.aw_term.specs.Names.{Ref}
use Rattle.aw_term.specs.Rules.{Term}
use Rattle.aw_term.specs.Matching.{Matched, Yes, Waits, Differs, Circle, and_then, under}
use Rattle.aw_store.specs.Equations.{Map}
use Rattle.aw_store.specs.Chase.{Chased, Found, Missing, Round, chase}

-- A head with n parts in a pattern, compared with the end of a chase from r; where they agree, the parts found go on.
abbrev pub guard_end : Chased → (List Ref → Matched Ref Ref) → Head → ℕ → Ref → Matched Ref Ref
guard_end (Missing s) go h n r = Waits s
guard_end Round go h n r = Circle r
guard_end (Found k rs) go h n r = if head_eq h k && nat_eq n (length rs) then go rs else Differs []

-- A pattern and a reference. A variable takes the reference itself; at anything else the reference is chased.
abbrev mutual
  pub guard : Map → Term → Ref → Matched Ref Ref
  guard k (Leaf v) r = Yes (r ∷ [])
  guard k (Made h ps) r = guard_end (chase k r) (guard_parts k 1 ps) h (count ps) r

  -- the parts from number n on
  pub guard_parts : Map → ℕ → Trees ℕ → List Ref → Matched Ref Ref
  guard_parts k n Nil _ = Yes []
  guard_parts k n (More p ps) [] = Differs []
  guard_parts k n (More p ps) (r ∷ rs) = and_then (under n (guard k p r)) (guard_parts k (suc n) ps rs)

-- the patterns of a rule and the inherited references, from attribute n on
abbrev pub guard_all : Map → ℕ → List Term → List Ref → Matched Ref Ref
guard_all k n [] _ = Yes []
guard_all k n (p ∷ ps) [] = Differs []
guard_all k n (p ∷ ps) (r ∷ rs) = and_then (under n (guard k p r)) (guard_all k (suc n) ps rs)
