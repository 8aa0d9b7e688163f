-- Which specification an input opens.
use Rattle.std.specs.Prelude.{◌≡◌, ℕ, ◌≤◌, List, Bool, length, None}
use Rattle.aw_lex.specs.Lines.{lines_of}
use Rattle.aw_grammar.specs.Declarations.{grammar_in}
use Rattle.aw_accept.specs.Circular.{LeastFault}
use Rattle.aw_typed.specs.TypeFaults.{type_fault}
use Rattle.aw_typed.specs.Typing.{types_of}
use Rattle.aw_spec.specs.Reading.{Spec, Good, specification}
use Rattle.aw_front.specs.declared.limit.TheConstants.{INPUT_LIMIT}

-- The input is within its limit and begins with this specification, which is good; its types have no fault, and its grammar has no circle.
pub record Opens (input : List ℕ) (s : Spec) : Type 0 where
  pub within : length input ≤ INPUT_LIMIT
  pub taken : ℕ
  pub loads : Bool
  pub good : specification (lines_of input) ≡ Good s taken loads
  pub typed : type_fault (types_of s.types) (grammar_in s.declared) ≡ None
  pub sound : LeastFault (grammar_in s.declared) None
