-- A part of the program as the plain definitions speak of it.
use Rattle.std.specs.Prelude.{◌≡◌}
use Rattle.aw_grammar.specs.GrammarOf.{grammar_of}
use Rattle.aw_modular.specs.Roles as R
use Rattle.aw_modular.specs.declared.part.Part.{Part}

-- the plain grammar of a part, and which role uses which sort
abbrev pub part_of : Part → R.Part
part_of p = record { grammar = grammar_of p.grammar; uses = p.faces.uses }

-- a part once more: its role, its faces and each of its declarations
pub record IsCopy (p copy : Part) : Type 0 where
  pub role : copy.role ≡ p.role
  pub faces : copy.faces ≡ p.faces
  pub roles : copy.grammar.roles ≡ p.grammar.roles
  pub cons : copy.grammar.cons ≡ p.grammar.cons
  pub sorts : copy.grammar.sorts ≡ p.grammar.sorts
  pub rules : copy.grammar.rules ≡ p.grammar.rules
