-- Sizes of written terms, how their words are spelled, and the terms of a rule.
use Rattle.std.specs.Prelude.{ℕ, suc, ◌≡◌, ◌+◌, ◌<◌, ◌≤◌, ◌⊎◌, Bool, true, false, ◌&&◌, List, [], ◌∷◌, ◌++◌, max, Option, MatchOption}
use Rattle.aw_spelling.specs.Spelling.{is_name, is_content}
use Rattle.aw_term.specs.Trees.{Head, Con, Num, Text}
use Rattle.aw_grammar.specs.Written.{Written, Word, Apply, Literal, Writtens, Empty, Then, WrittenChild, WrittenRule}

-- how many names, numbers and texts stand in a term
abbrev mutual
  pub symbols_in : Written → ℕ
  symbols_in (Word x) = 1
  symbols_in (Apply x ts) = suc (symbols_in_parts ts)
  symbols_in (Literal h) = 1

  pub symbols_in_parts : Writtens → ℕ
  symbols_in_parts Empty = 0
  symbols_in_parts (Then t ts) = symbols_in t + symbols_in_parts ts

-- how many stand in these terms together
abbrev pub symbols_in_all : List Written → ℕ
symbols_in_all [] = 0
symbols_in_all (t ∷ ts) = symbols_in t + symbols_in_all ts

-- how deep a term is: a term without parts is 1 deep
abbrev mutual
  pub depth_of : Written → ℕ
  depth_of (Word x) = 1
  depth_of (Apply x ts) = suc (depth_of_parts ts)
  depth_of (Literal h) = 1

  pub depth_of_parts : Writtens → ℕ
  depth_of_parts Empty = 0
  depth_of_parts (Then t ts) = max (depth_of t) (depth_of_parts ts)

-- how deep the deepest is
abbrev pub depth_of_all : List Written → ℕ
depth_of_all [] = 0
depth_of_all (t ∷ ts) = max (depth_of t) (depth_of_all ts)

-- what is left of a room for symbols; nothing is left where the depth is past what is allowed, or the symbols are more than the room
abbrev pub IsLeftOf : ℕ → ℕ → ℕ → ℕ → Option ℕ → Type 0
IsLeftOf room allowed depth symbols result =
    MatchOption result ((allowed < depth) ⊎ (room < symbols)) (λ left. (depth ≤ allowed) × (left + symbols ≡ room))

-- a number, or a text that is a content
abbrev pub is_literal : Head → Bool
is_literal (Con c) = false
is_literal (Num n) = true
is_literal (Text t) = is_content t

-- each bare word of a term is a name, and each literal is a number, or a text that is a content
abbrev mutual
  pub has_contents : Written → Bool
  has_contents (Word x) = is_name x
  has_contents (Apply x ts) = parts_have_contents ts
  has_contents (Literal h) = is_literal h

  pub parts_have_contents : Writtens → Bool
  parts_have_contents Empty = true
  parts_have_contents (Then t ts) = has_contents t && parts_have_contents ts

-- each bare word of these terms is a name, and each literal is a number, or a text that is a content
abbrev pub all_have_contents : List Written → Bool
all_have_contents [] = true
all_have_contents (t ∷ ts) = has_contents t && all_have_contents ts

-- each of these is a name
abbrev pub are_names : List (List ℕ) → Bool
are_names [] = true
are_names (x ∷ xs) = is_name x && are_names xs

-- the arguments of some subtasks, one behind the other
abbrev pub args_of : List WrittenChild → List Written
args_of [] = []
args_of (c ∷ cs) = c.args ++ args_of cs

-- the names of the results of some subtasks, one behind the other
abbrev pub results_of : List WrittenChild → List (List ℕ)
results_of [] = []
results_of (c ∷ cs) = c.results ++ results_of cs

-- the terms in which variables only stand: arguments of children, and results
abbrev pub uses_of : WrittenRule → List Written
uses_of r = args_of r.children ++ r.results

-- all terms of a rule
abbrev pub terms_of : WrittenRule → List Written
terms_of r = r.patterns ++ uses_of r
