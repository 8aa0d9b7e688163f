-- Small cases that were worked by hand: a still world that is not quiet, and a schedule of deliveries that is not fair.
use Rattle.std.specs.Prelude.{◌≡◌, ℕ, zero, suc, true, false, [], ◌∷◌, map, Some, None}
use Rattle.aw_term.specs.Trees.{Leaf}
use Rattle.aw_term.specs.Names.{Node, root, below}
use Rattle.aw_term.specs.Rules.{Grammar}
use Rattle.aw_term.specs.Choices.{Start, Develop}
use Rattle.aw_term.specs.Worked.{con, sort, call, rule}
use Rattle.aw_apply.specs.Messages.{Message, Repeat}
use Rattle.aw_law_sites.specs.Reacting.{receive}
use Rattle.aw_law_sites.specs.Worlds.{World, site_at, Chooses, Delivers, undelivered, world_after}
use Rattle.aw_law_settling.specs.Fair.{front}

-- A value that is made at a, and worked on at b, twice.
--   role a · role b · con ok 0 · sort top a 0 0 · sort p a 1 1 · sort w b 1 0 · start top
--   rule t : top()<> = p(y)<y> ; w(y)<> · rule make : p(x)<ok> = w(x)<>
abbrev twice : Grammar
twice = record {
  roles = 2;
  arities = 0 ∷ [];
  sorts = sort 0 0 0 true ∷ sort 0 1 1 false ∷ sort 1 1 0 false ∷ [];
  rules = rule 0 [] 0 [] (call 1 (Leaf 0 ∷ []) 1 ∷ call 2 (Leaf 0 ∷ []) 0 ∷ []) ∷ rule 1 (Leaf 0 ∷ []) 0 (con 0 ∷ []) (call 2 (Leaf 0 ∷ []) 0 ∷ []) ∷ [];
}

-- top#1
abbrev top : Node
top = root 0 1

-- b is called and asks for the value; once it is made, a second call brings it, and the answer to the question was never delivered
abbrev late_answer : World
late_answer = world_after twice true
    (Chooses (Start 0 1) ∷ Chooses (Develop top 0 []) ∷ Delivers 0 ∷ Delivers 1 ∷ Chooses (Develop (below top 0 1) 1 []) ∷ Delivers 2 ∷ [])

-- that world is not quiet, and yet nothing new can come
abbrev pub StillAndNotQuiet : Type 0
StillAndNotQuiet =
    (undelivered late_answer ≡ Some 3)
    × (map (λ (m : Message). receive twice (site_at late_answer m.to) m) late_answer.messages ≡ Repeat ∷ Repeat ∷ Repeat ∷ Repeat ∷ [])

-- a is about to call b
abbrev called : World
called = world_after twice true (Chooses (Start 0 1) ∷ Chooses (Develop top 0 []) ∷ [])

-- message 1 comes before it was sent, and then message 0 for ever: each number comes, and message 1 waits for ever
abbrev too_early : ℕ → ℕ
too_early zero = 1
too_early (suc n) = 0

-- so "each number comes" is not fair
abbrev pub TooEarlyIsNotFair : Type 0
TooEarlyIsNotFair = (undelivered (front twice called too_early 2) ≡ Some 1) × (undelivered (front twice called too_early 9) ≡ Some 1)

-- each in its turn: after two deliveries all is quiet
abbrev pub InTurnSettles : Type 0
InTurnSettles = (undelivered (front twice called (λ n. n) 1) ≡ Some 1) × (undelivered (front twice called (λ n. n) 2) ≡ None)
