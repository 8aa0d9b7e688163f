-- What an input leads to, for each command that reads it: its specification is good, typed and accepted, or it is told why not.
use Rattle.std.specs.Prelude.{◌≡◌, ℕ, Bool, List, length, nat_lt, Option, None, Some, MatchBool}
use Rattle.aw_lex.specs.Lines.{lines_of}
use Rattle.aw_term.specs.Artifacts.{Words}
use Rattle.aw_grammar.specs.Declarations.{grammar_in, words_in}
use Rattle.aw_accept.specs.declared.refused.Fault.{Fault}
use Rattle.aw_accept.specs.Circular.{LeastFault}
use Rattle.aw_check_text.specs.Told.{circle_text}
use Rattle.aw_spec.specs.KindNames.{kind_name}
use Rattle.aw_spec.specs.Reading.{Spec, Reading, Good, Faulty, specification}
use Rattle.aw_typed.specs.TypeFaults.{Fault as TypeFault, type_fault}
use Rattle.aw_typed.specs.Typing.{types_of}
use Rattle.aw_front.specs.declared.limit.TheConstants.{INPUT_LIMIT}
use Rattle.aw_front.specs.Refusals.{at_line, types_text}

-- a text that is written, or why none is
pub data Output : Type 0 where
  Writes : (text : List ℕ) → Output
  PastInputLimit : Output
  BadSpecification : (why : List ℕ) → Output
  BadTypes : (why : List ℕ) → Output
  IsCircular : (why : List ℕ) → Output
  UnknownRole : Output
  BadSchedule : (why : List ℕ) → Output
  PastOutputLimit : Output
  NoReplyOf : (role : List ℕ) → Output

-- the first fault in the types is told, and where there is none P says what comes
abbrev pub ByTypes : Words → Option TypeFault → (Output → Type 0) → Output → Type 0
ByTypes w None P output = P output
ByTypes w (Some fault) P output = output ≡ BadTypes (types_text w fault)

-- where the types of the specification have no fault, P says what comes
abbrev pub IfTyped : Spec → (Output → Type 0) → Output → Type 0
IfTyped s P output = ByTypes (words_in s.declared) (type_fault (types_of s.types) (grammar_in s.declared)) P output

-- the least circle is told, and where there is none P says what comes
abbrev pub ByFault : Words → Option Fault → (Output → Type 0) → Output → Type 0
ByFault w None P output = P output
ByFault w (Some fault) P output = output ≡ IsCircular (circle_text w fault)

-- where the grammar of the specification has no circle, P says what comes
abbrev pub IfAccepted : Spec → (Output → Type 0) → Output → Type 0
IfAccepted s P output = (found : Option Fault) × LeastFault (grammar_in s.declared) found × ByFault (words_in s.declared) found P output

-- `makes` says what comes of a good specification, which takes so many lines and asks for loads or not, and of another its first faulty line is told
abbrev pub BySpecification : (makes : Spec → ℕ → Bool → Output → Type 0) → Reading → Output → Type 0
BySpecification makes (Good spec taken loads) output = makes spec taken loads output
BySpecification makes (Faulty line kind) output = output ≡ BadSpecification (at_line line (kind_name kind))

-- What every command makes of an input: nothing of one that is too long, and what `makes` says of a good specification at its front.
unfoldable pub ByInput : (makes : Spec → ℕ → Bool → Output → Type 0) → List ℕ → Output → Type 0
ByInput makes input output =
    MatchBool (nat_lt INPUT_LIMIT (length input)) (output ≡ PastInputLimit) (BySpecification makes (specification (lines_of input)) output)

-- Of an input whose specification is good, typed and accepted comes what `makes` says; what stands behind the specification is not looked at.
unfoldable pub OfAccepted : (makes : Spec → Output → Type 0) → List ℕ → Output → Type 0
OfAccepted makes input output = ByInput (λ s taken loads. IfTyped s (IfAccepted s (makes s))) input output
