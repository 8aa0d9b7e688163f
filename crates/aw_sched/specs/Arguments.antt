-- Arguments of a choice as lexemes spell them, without written terms between.
use Rattle.std.specs.Prelude.{◌≡◌, ◌≤◌, ℕ, true, false, List, Some, map}
use Rattle.aw_term.specs.Views.{ground_of}
use Rattle.aw_term.specs.declared.ground.Ground.{Ground}
use Rattle.aw_grammar.specs.declared.rule.Con.{Con}
use Rattle.aw_grammar.specs.Written.{Written, side_by_side}
use Rattle.aw_grammar.specs.Terms.{depth_of}
use Rattle.aw_grammar.specs.Kinds.{has_arity, con_called, has_arities, all_have_arities}
use Rattle.aw_grammar.specs.Named.{number_named}
use Rattle.aw_term_reader.specs.Lexemes.{Lexeme}
use Rattle.aw_term_reader.specs.Laws.{IsWritten, AreWritten}
use Rattle.aw_sched.specs.Events.{args_are_past}
use Rattle.aw_sched.specs.Grounds.{known_ground, known_grounds}
use Rattle.aw_sched.specs.LineSpelling.{args_spelling}

-- the names of constructors, in their order
abbrev pub names_of : List Con → List (List ℕ)
names_of cons = map (λ (c : Con). c.name) cons

-- this constructor has this name, and so many parts
pub record IsCon (cons : List Con) (name : List ℕ) (con parts : ℕ) : Type 0 where
  pub number : number_named (names_of cons) name ≡ Some con
  pub arity : has_arity parts (con_called name cons) ≡ true

-- A written term means this argument: it can be spelled, is at most so deep, and each name in it is that of a constructor with so many parts.
pub record Means (cons : List Con) (depth : ℕ) (t : Written) (x : Ground) : Type 0 where
  pub written : IsWritten t
  pub shallow : depth_of t ≤ depth
  pub known : known_ground (names_of cons) t ≡ Some (ground_of x)
  pub arities : has_arities cons t ≡ true

-- the lexemes spell these arguments of a choice and nothing else, and they are within their limits
pub record ReadsAll (cons : List Con) (ls : List Lexeme) (xs : List Ground) : Type 0 where
  pub terms : List Written
  pub written : AreWritten (side_by_side terms)
  pub spelled : ls ≡ args_spelling terms
  pub within : args_are_past terms ≡ false
  pub known : known_grounds (names_of cons) terms ≡ Some (map ground_of xs)
  pub arities : all_have_arities cons terms ≡ true
