-- Matching patterns: the first place in depth-first order that does not match decides.
use Rattle.std.specs.Prelude.{ℕ, suc, ◌&&◌, List, [], ◌∷◌, ◌++◌, nat_eq, if◌then◌else◌}
use Rattle.aw_term.specs.Trees.{Tree, Leaf, Made, Trees, Nil, More, count, head_eq}
use Rattle.aw_term.specs.Rules.{Term}

-- What a match gives: what the variables take, in the order in which they enter; or the missing value that it waits for; or the place that differs.
-- A circle comes only over references.
pub data Matched (A R : Type 0) : Type 0 where
  Yes : (bound : List A) → Matched A R
  Waits : (on : R) → Matched A R
  Differs : (path : List ℕ) → Matched A R
  Circle : (at : R) → Matched A R

-- both match, or the first decides
abbrev pub and_then : {A R : Type 0} → Matched A R → Matched A R → Matched A R
and_then (Yes xs) (Yes ys) = Yes (xs ++ ys)
and_then (Yes xs) m = m
and_then m _ = m

-- a path goes on under this number
abbrev pub under : {A R : Type 0} → ℕ → Matched A R → Matched A R
under k (Differs p) = Differs (k ∷ p)
under k m = m

-- A pattern and a tree. A variable takes the tree; a hole against anything else waits.
abbrev mutual
  pub match : {R : Type 0} → Term → Tree R → Matched (Tree R) R
  match (Leaf v) t = Yes (t ∷ [])
  match (Made h ps) (Leaf r) = Waits r
  match (Made h ps) (Made k ts) =
      if head_eq h k && nat_eq (count ps) (count ts) then match_parts 1 ps ts else Differs []

  -- the parts from number n on
  pub match_parts : {R : Type 0} → ℕ → Trees ℕ → Trees R → Matched (Tree R) R
  match_parts n Nil _ = Yes []
  match_parts n (More p ps) Nil = Differs []
  match_parts n (More p ps) (More t ts) = and_then (under n (match p t)) (match_parts (suc n) ps ts)

-- the patterns of a rule and the inherited values, from attribute n on
abbrev pub match_all : {R : Type 0} → ℕ → List Term → List (Tree R) → Matched (Tree R) R
match_all n [] _ = Yes []
match_all n (p ∷ ps) [] = Differs []
match_all n (p ∷ ps) (t ∷ ts) = and_then (under n (match p t)) (match_all (suc n) ps ts)
