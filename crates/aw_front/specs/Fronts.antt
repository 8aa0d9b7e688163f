-- What a command has of the front of an input: an accepted specification that stands ready, or why there is none.
use Rattle.std.specs.Prelude.{◌≡◌, ℕ, List, Bool, IsTrue, None}
use Rattle.std.specs.declared.result.Result.{Result}
use Rattle.std.specs.declared.result.Result.TheVariants.{Ok, Err}
use Rattle.aw_grammar.specs.declared.grammar.Grammar.{Grammar}
use Rattle.aw_grammar.specs.GrammarOf.{grammar_of, declarations_of}
use Rattle.aw_grammar.specs.Declarations.{grammar_in}
use Rattle.aw_accept.specs.declared.accepted.Accepted.{Accepted}
use Rattle.aw_accept.specs.Circular.{LeastFault}
use Rattle.aw_iograph.specs.Dependence.{IO, HasNoCircle}
use Rattle.aw_typed.specs.Typing.{IsMadeFor}
use Rattle.aw_spec.specs.Reading.{Spec}
use Rattle.aw_spec_writer.specs.SpecLines.{written}
use Rattle.aw_front.specs.declared.front.Front.{Front}
use Rattle.aw_front.specs.declared.front.Front.TheVariants.{Ready, Refused}
use Rattle.aw_front.specs.declared.front.Opened.{Opened}
use Rattle.aw_front.specs.declared.reply.Reply.{Reply}
use Rattle.aw_front.specs.Opening.{Opens}
use Rattle.aw_front.specs.Output.{Output, IfAccepted, OfAccepted}
use Rattle.aw_front.specs.Replies.{Replies}

-- What stands ready is made of the specification, which is accepted: its grammar, its types, and its text where that is asked for.
pub record IsReady (s : Spec) (writes : Bool) (o : Opened) : Type 0 where
  pub declared : s.declared ≡ declarations_of o.accepted.grammar
  pub types : s.types ≡ o.typed.types
  pub made : IsMadeFor (grammar_of o.accepted.grammar) o.typed
  pub sound : LeastFault (grammar_in s.declared) None
  pub text : IsTrue writes → o.text ≡ written s

-- no output
abbrev pub Nothing : Output → Type 0
Nothing output = ⊥

-- the specification stands ready, or the refusal has an output with P
abbrev pub ReadyOr : (P : Output → Type 0) → Spec → (writes : Bool) → Front → Type 0
ReadyOr P s writes (Ready opened) = IsReady s writes opened
ReadyOr P s writes (Refused said) = Replies P said

-- this grammar is accepted, or what is said of it is said of each specification that declares it, whatever would come of an accepted one
abbrev pub IsJudged : Grammar → Result Accepted Reply → Type 0
IsJudged g (Ok accepted) = (accepted.grammar ≡ g) × HasNoCircle (grammar_of g) (IO (grammar_of g))
IsJudged g (Err said) = (s : Spec) → s.declared ≡ declarations_of g → Replies (IfAccepted s Nothing) said

-- a specification stands ready that the input opens, or the input is refused, whatever would come of an accepted specification
abbrev pub IsFrontOf : List ℕ → (writes : Bool) → Front → Type 0
IsFrontOf input writes (Ready opened) = (s : Spec) × Opens input s × IsReady s writes opened
IsFrontOf input writes (Refused said) = Replies (OfAccepted (λ s. Nothing) input) said
