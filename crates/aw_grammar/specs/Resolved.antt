-- Written terms with their names looked up: first constructors, then variables.
use Rattle.std.specs.Prelude.{ℕ, List, ◌++◌, map, length, Option, Some, None}
use Rattle.aw_name_index.specs.Places.{place_of, number_of}
use Rattle.aw_term.specs.Trees.{Con, Tree, Leaf, Made, Trees, Nil, More, bind}
use Rattle.aw_term.specs.Artifacts.{Words}
use Rattle.aw_term.specs.Rules.{Term}
use Rattle.aw_term.specs.Rules as P
use Rattle.aw_term.specs.WellFormed.{leaves_of}
use Rattle.aw_grammar.specs.Written.{Written, Word, Apply, Literal, Writtens, Empty, Then, WrittenChild, WrittenRule}
use Rattle.aw_grammar.specs.Terms.{results_of}

-- a bare name: a constructor without parts where it is one, and else a variable
abbrev pub word_tree : List ℕ → Option ℕ → Tree (List ℕ)
word_tree x None = Leaf x
word_tree x (Some c) = Made (Con c) Nil

-- a term with its constructors by number; its leaves are the names of variables
-- (the number of a name that is no constructor is past the last, which a rule without fault does not write)
abbrev mutual
  pub resolved : List (List ℕ) → Written → Tree (List ℕ)
  resolved cons (Word x) = word_tree x (place_of x cons)
  resolved cons (Apply x ts) = Made (Con (number_of x cons)) (resolved_parts cons ts)
  resolved cons (Literal h) = Made h Nil

  pub resolved_parts : List (List ℕ) → Writtens → Trees (List ℕ)
  resolved_parts cons Empty = Nil
  resolved_parts cons (Then t ts) = More (resolved cons t) (resolved_parts cons ts)

-- these terms with their constructors by number
abbrev pub all_resolved : List (List ℕ) → List Written → List (Tree (List ℕ))
all_resolved cons ts = map (resolved cons) ts

-- the names of variables in the order in which they enter: in patterns depth first, as parameters, as results of children
abbrev pub entering : List (List ℕ) → WrittenRule → List (List ℕ)
entering cons r = leaves_of (all_resolved cons r.patterns) ++ (r.params ++ results_of r.children)

-- a term with its variables by number
-- (each enters, where the rule has no fault; the number of one that does not is past the last)
abbrev pub numbered : List (List ℕ) → List (List ℕ) → Written → Term
numbered cons variables t = bind (λ x. Leaf (number_of x variables)) (resolved cons t)

-- a subtask with what it names by number, where these are the names of constructors, of sorts, and of the variables of its rule
abbrev pub child_numbered : List (List ℕ) → List (List ℕ) → List (List ℕ) → WrittenChild → P.Child
child_numbered cons sorts variables c = record { sort = number_of c.sort sorts; args = map (numbered cons variables) c.args; outs = length c.results }

-- subtasks with what they name by number, where these are the words of the grammar, and the names of the variables of their rule
abbrev pub children_numbered : Words → List (List ℕ) → List WrittenChild → List P.Child
children_numbered words variables cs = map (child_numbered words.cons words.sorts variables) cs

-- a rule with what it names by number, where these are the names of constructors, of sorts, and of its variables
-- (each is declared, or it enters, where the rule has no fault; the number of another name is past the last)
abbrev pub rule_numbered : List (List ℕ) → List (List ℕ) → List (List ℕ) → WrittenRule → P.Rule
rule_numbered cons sorts variables r = record {
  sort = number_of r.sort sorts;
  patterns = map (numbered cons variables) r.patterns;
  params = length r.params;
  results = map (numbered cons variables) r.results;
  children = map (child_numbered cons sorts variables) r.children;
}
