-- Rules in which an occurrence depends on itself.
use Rattle.std.specs.Prelude.{◌≡◌, ℕ, ◌<◌, ◌↔◌, Option, Some, None, slice_get}
use Rattle.aw_term.specs.Rules as P
use Rattle.aw_grammar.specs.declared.grammar.Grammar.{Grammar}
use Rattle.aw_grammar.specs.GrammarOf.{grammar_of}
use Rattle.aw_iograph.specs.declared.io.Io.{Io}
use Rattle.aw_iograph.specs.Dependence.{IO, LeastOnCircle, HasNoCircle}
use Rattle.aw_iograph.specs.Pairs.{Has}
use Rattle.aw_accept.specs.declared.refused.Fault.{Fault}

-- the relation is the dependence relation of the grammar
abbrev pub IsRelation : Grammar → Io → Type 0
IsRelation g io = (s i j : ℕ) → Has io s i j ↔ IO (grammar_of g) s i j

-- over a relation, no rule below a number has a circle
abbrev pub NoneBelow : P.Grammar → (ℕ → ℕ → ℕ → Type 0) → ℕ → Type 0
NoneBelow g rel n = (k : ℕ) → k < n → (r : P.Rule) → slice_get g.rules k ≡ Some r → LeastOnCircle rel r None

-- over a relation, the least rule with a circle, and its least occurrence on one; or none where no rule has one
abbrev pub LeastFaultOver : P.Grammar → (ℕ → ℕ → ℕ → Type 0) → Option Fault → Type 0
LeastFaultOver g rel None = HasNoCircle g rel
LeastFaultOver g rel (Some fault) =
    ((r : P.Rule) × (slice_get g.rules fault.rule ≡ Some r) × LeastOnCircle rel r (Some fault.occ)) × NoneBelow g rel fault.rule

-- the same over the dependence relation
abbrev pub LeastFault : P.Grammar → Option Fault → Type 0
LeastFault g found = LeastFaultOver g (IO g) found
