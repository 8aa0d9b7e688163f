-- Which specification an input opens for a role, for the commands that serve, and what holds of each that a grammar was read from.
use Rattle.std.specs.Prelude.{◌≡◌, ℕ, List, Some}
use Rattle.aw_grammar.specs.declared.grammar.Grammar.{Grammar}
use Rattle.aw_grammar.specs.GrammarOf.{declarations_of}
use Rattle.aw_typed.specs.declared.data.Types.{Types}
use Rattle.aw_spec.specs.Reading.{Spec}
use Rattle.aw_spec_writer.specs.SpecLines.{written}
use Rattle.aw_front.specs.Opening.{Opens}
use Rattle.aw_run.specs.Serving.{role_in}

-- The input opens this specification, and this role has this name in it.
pub record OpensRole (name input : List ℕ) (s : Spec) (role : ℕ) : Type 0 where
  pub opens : Opens input s
  pub named : role_in s name ≡ Some role

-- each specification with the declarations of this grammar has P
abbrev pub ForDeclared : Grammar → (Spec → Type 0) → Type 0
ForDeclared g P = (s : Spec) → s.declared ≡ declarations_of g → P s

-- each with the declarations of this grammar and with these types has P
abbrev pub ForTyped : Grammar → Types → (Spec → Type 0) → Type 0
ForTyped g t P = (s : Spec) → s.declared ≡ declarations_of g → s.types ≡ t → P s

-- each with the declarations of this grammar and with these types, and written so, has P
abbrev pub ForWritten : Grammar → Types → List ℕ → (Spec → Type 0) → Type 0
ForWritten g t text P = (s : Spec) → s.declared ≡ declarations_of g → s.types ≡ t → text ≡ written s → P s
