-- Parts that may be missing.
use Rattle.std.specs.Prelude.{◌≡◌, ℕ, List, Option, None, Some, length}
use Rattle.aw_grammar.specs.declared.grammar.Grammar.{Grammar}
use Rattle.aw_modular.specs.declared.yes.RoleYes.{RoleYes}
use Rattle.aw_modular.specs.Wholes.{ArePartsOf, IsPartOf}

-- the part of a role of the grammar, where there is one
abbrev pub IfSomePart : Grammar → ℕ → Option RoleYes → Type 0
IfSomePart g role None = Unit {0}
IfSomePart g role (Some y) = IsPartOf g role y

-- the parts of its roles in order, where there are some
abbrev pub IfSomeParts : Grammar → Option (List RoleYes) → Type 0
IfSomeParts g None = Unit {0}
IfSomeParts g (Some parts) = ArePartsOf g 0 parts

-- the parts of the first roles, so many
pub record AreFirst (g : Grammar) (count : ℕ) (parts : List RoleYes) : Type 0 where
  pub parts_of : ArePartsOf g 0 parts
  pub counted : length parts ≡ count
