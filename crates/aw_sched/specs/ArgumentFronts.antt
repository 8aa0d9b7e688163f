-- What stands at the front of an argument, before its parts.
use Rattle.std.specs.Prelude.{◌≡◌, ◌≤◌, ◌<◌, ◌+◌, ℕ, List, [], ◌∷◌, length}
use Rattle.aw_term.specs.declared.ground.Ground.{Ground}
use Rattle.aw_term.specs.Limits.{most_levels, most_symbols, most_arguments}
use Rattle.aw_grammar.specs.declared.rule.Con.{Con}
use Rattle.aw_term_reader.specs.Lexemes.{Name, Mark}
use Rattle.aw_sched.specs.Arguments.{IsCon}
use Rattle.aw_sched.specs.ByteArguments.{SaysBefore, TakesArgument, TakesArguments}
use Rattle.aw_sched.specs.declared.known.ArgumentFront.{ArgumentFront}
use Rattle.aw_sched.specs.declared.known.ArgumentFront.TheVariants.{Whole, Parts}

-- the bytes begin with the name of this constructor, which has so many parts, and an opening parenthesis, and `rest` is behind it
pub record OpensParts (cons : List Con) (bytes : List ℕ) (con arity : ℕ) (rest : List ℕ) : Type 0 where
  pub name : List ℕ
  pub is : IsCon cons name con arity
  pub spelled : SaysBefore bytes (Name name ∷ Mark 40 ∷ []) rest

-- the bytes begin with this argument, or with what stands before the parts of one, of which there are none yet
abbrev pub IsFront : List Con → List ℕ → ArgumentFront → List ℕ → Type 0
IsFront cons bytes (Whole x) rest = (depth room left : ℕ) → 0 < depth → left + 1 ≡ room → TakesArgument cons depth room bytes x left rest
IsFront cons bytes (Parts con arity parts) rest = OpensParts cons bytes con arity rest × (parts ≡ [])

-- the bytes behind an opening brace spell these arguments of a choice, a closing brace and nothing else
pub record AreInBraces (cons : List Con) (bytes : List ℕ) (xs : List Ground) : Type 0 where
  pub left : ℕ
  pub rest : List ℕ
  pub reads : TakesArguments cons 125 most_levels most_symbols bytes xs left rest
  pub ends : SaysBefore rest [] []
  pub few : length xs ≤ most_arguments
