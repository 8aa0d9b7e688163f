-- Arguments with their names looked up, where each is the name of a constructor.
use Rattle.std.specs.Prelude.{◌≡◌, ℕ, List, [], ◌∷◌, Option, Some, None, Result, Ok, Err, option_map, option_and_then}
use Rattle.aw_term.specs.Trees.{Never, Con, Made, Trees, Nil, More}
use Rattle.aw_term.specs.Rules.{Ground}
use Rattle.aw_grammar.specs.Written.{Written, Word, Apply, Literal, Writtens, Empty, Then}
use Rattle.aw_grammar.specs.Named.{number_named}
use Rattle.aw_sched.specs.declared.fault.SchedKind.TheVariants.{Unknown}
use Rattle.aw_sched.specs.declared.fault.LineFault.{LineFault}
use Rattle.aw_sched.specs.declared.fault.LineFault.TheVariants.{Bad, NoMemory}

-- an argument with its constructors by number, where each name in it is that of one, and the same of its parts
abbrev mutual
  pub known_ground : List (List ℕ) → Written → Option Ground
  known_ground cons (Word x) = option_map (λ c. Made (Con c) Nil) (number_named cons x)
  known_ground cons (Apply x ts) = option_and_then (λ c. option_map (λ parts. Made (Con c) parts) (known_parts cons ts)) (number_named cons x)
  known_ground cons (Literal h) = Some (Made h Nil)

  pub known_parts : List (List ℕ) → Writtens → Option (Trees Never)
  known_parts cons Empty = Some Nil
  known_parts cons (Then t ts) = option_and_then (λ g. option_map (λ gs. More g gs) (known_parts cons ts)) (known_ground cons t)

-- arguments with their constructors by number, where each name in them is that of one
abbrev pub known_grounds : List (List ℕ) → List Written → Option (List Ground)
known_grounds cons [] = Some []
known_grounds cons (t ∷ ts) = option_and_then (λ g. option_map (λ gs. g ∷ gs) (known_grounds cons ts)) (known_ground cons t)

-- what is found, or that a name is not declared; out of memory says nothing
abbrev pub Finds : {X Y : Type 0} → (X → Y) → Option Y → Result X LineFault → Type 0
Finds view found (Ok x) = found ≡ Some (view x)
Finds view found (Err (Bad kind)) = (found ≡ None) × (kind ≡ Unknown)
Finds view found (Err NoMemory) = Unit {0}
