-- What is found at the root of an argument, before its parts are looked at.
use Rattle.std.specs.Prelude.{◌≡◌, ℕ, List, [], map, None, Some, Result, Ok, Err}
use Rattle.aw_term.specs.Views.{ground_of}
use Rattle.aw_grammar.specs.Written.{Written, Apply, side_by_side, written_of}
use Rattle.aw_grammar.specs.Named.{number_named}
use Rattle.aw_sched.specs.Grounds.{known_ground}
use Rattle.aw_sched.specs.declared.fault.SchedKind.TheVariants.{Unknown}
use Rattle.aw_sched.specs.declared.fault.LineFault.{LineFault}
use Rattle.aw_sched.specs.declared.fault.LineFault.TheVariants.{Bad, NoMemory}
use Rattle.aw_sched.specs.declared.ground.ArgumentRoot.{ArgumentRoot}
use Rattle.aw_sched.specs.declared.ground.ArgumentRoot.TheVariants.{Whole, Parts}

-- the term has these parts in parentheses, and its name is that of this constructor
pub record HasParts (cons : List (List ℕ)) (t : Written) (con : ℕ) (parts : List Written) : Type 0 where
  pub name : List ℕ
  pub is : t ≡ Apply name (side_by_side parts)
  pub number : number_named cons name ≡ Some con

-- The whole argument; or its constructor and its parts, of which none is found yet; or that a name is not declared. Want of memory says nothing.
abbrev pub FindsRoot : List (List ℕ) → Written → Result ArgumentRoot LineFault → Type 0
FindsRoot cons t (Ok (Whole x)) = known_ground cons t ≡ Some (ground_of x)
FindsRoot cons t (Ok (Parts con parts found)) = HasParts cons t con (map written_of parts) × (found ≡ [])
FindsRoot cons t (Err (Bad kind)) = (known_ground cons t ≡ None) × (kind ≡ Unknown)
FindsRoot cons t (Err NoMemory) = Unit {0}
