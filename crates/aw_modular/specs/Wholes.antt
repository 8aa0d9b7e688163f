-- The whole of parts that were checked apart.
use Rattle.std.specs.Prelude.{◌≡◌, ℕ, suc, List, [], ◌∷◌, ◌++◌, Option, Some, None, map, ◌⊎◌}
use Rattle.aw_term.specs.Trees.{Never}
use Rattle.aw_term.specs.WellFormed.{IsWellFormed}
use Rattle.aw_grammar.specs.declared.rule.Rule.{Rule}
use Rattle.aw_grammar.specs.declared.grammar.Grammar.{Grammar}
use Rattle.aw_grammar.specs.GrammarView.{plain_grammar, plain_words}
use Rattle.aw_grammar.specs.GrammarOf.{grammar_of}
use Rattle.aw_grammar.specs.SomeRules.{rules_at}
use Rattle.aw_modular.specs.Roles as R
use Rattle.aw_modular.specs.PartViews.{part_of}
use Rattle.aw_modular.specs.declared.yes.RoleYes.{RoleYes}
use Rattle.aw_modular.specs.declared.shared.Shared.{Shared}
use Rattle.aw_modular.specs.declared.shared.JoinFault.{JoinFault}
use Rattle.aw_modular.specs.declared.shared.JoinFault.TheVariants.{Differs, NoMemory}

-- what a part has in common with the others
abbrev pub shared_of : RoleYes → Shared
shared_of y = record { roles = y.part.grammar.roles; cons = y.part.grammar.cons; sorts = y.part.grammar.sorts; offers = y.part.faces.offers; declared = y.declared }

-- each part is of the role of its place, the first of this one
abbrev pub HaveRoles : ℕ → List RoleYes → Type 0
HaveRoles role [] = Unit {0}
HaveRoles role (y ∷ ys) = (y.part.role ≡ role) × HaveRoles (suc role) ys

-- there is a part at least, and each is of the role of its place
abbrev pub AreInOrder : List RoleYes → Type 0
AreInOrder [] = Never
AreInOrder (y ∷ ys) = HaveRoles 0 (y ∷ ys)

-- each has this in common
abbrev pub AllHave : Shared → List RoleYes → Type 0
AllHave s [] = Unit {0}
AllHave s (y ∷ ys) = (shared_of y ≡ s) × AllHave s ys

-- each has the same
abbrev pub AllShare : List RoleYes → Type 0
AllShare [] = Unit {0}
AllShare (y ∷ ys) = AllHave (shared_of y) ys

-- the rules of a part were added where it has this in common with the others; else what it has differs
abbrev pub TakesIn : Shared → RoleYes → List Rule → List Rule → Option Shared → Type 0
TakesIn kept y old new None = (shared_of y ≡ kept) × (new ≡ old ++ y.part.grammar.rules)
TakesIn kept y old new (Some came) = (came ≡ shared_of y) × (came ≡ kept → Never)

-- of some that have this in common up to one that does not, what that one has
abbrev pub FirstOther : Shared → Shared → List RoleYes → Type 0
FirstOther kept came [] = Never
FirstOther kept came (y ∷ ys) = ((shared_of y ≡ came) × (came ≡ kept → Never)) ⊎ ((shared_of y ≡ kept) × FirstOther kept came ys)

-- what the first part has, and what the first has that differs from it
abbrev pub TellsDifference : List RoleYes → JoinFault → Type 0
TellsDifference ys NoMemory = Unit {0}
TellsDifference [] (Differs kept came) = Never
TellsDifference (y ∷ ys) (Differs kept came) = (kept ≡ shared_of y) × FirstOther kept came ys

-- the rules of the parts in order
abbrev pub all_rules : List RoleYes → List Rule
all_rules [] = []
all_rules (y ∷ ys) = y.part.grammar.rules ++ all_rules ys

-- the rules of parts were added in order where each has this in common; else what the first has that differs
abbrev pub TakesAllIn : Shared → List RoleYes → List Rule → List Rule → Option Shared → Type 0
TakesAllIn kept ys old new None = AllHave kept ys × (new ≡ old ++ all_rules ys)
TakesAllIn kept ys old new (Some came) = FirstOther kept came ys

-- what the parts have in common, and the rules of all in order
abbrev pub Gathers : List RoleYes → Shared → List Rule → Type 0
Gathers [] s rules = Never
Gathers (y ∷ ys) s rules = (s ≡ shared_of y) × AllHave s ys × (rules ≡ all_rules (y ∷ ys))

-- the declarations in common and these rules are well formed together
abbrev pub FitTogether : Shared → List Rule → Type 0
FitTogether s rules = ∥ IsWellFormed (plain_words s.roles s.cons s.sorts rules) (plain_grammar s.roles s.cons s.sorts rules) ∥₁

-- parts that share all are well formed together
abbrev pub WouldFit : List RoleYes → Type 0
WouldFit [] = Unit {0}
WouldFit (y ∷ ys) = AllHave (shared_of y) ys → FitTogether (shared_of y) (all_rules (y ∷ ys))

-- it is the part of a role of a grammar
pub record IsPartOf (g : Grammar) (k : ℕ) (y : RoleYes) : Type 0 where
  pub role : y.part.role ≡ k
  pub roles : y.part.grammar.roles ≡ g.roles
  pub cons : y.part.grammar.cons ≡ g.cons
  pub sorts : y.part.grammar.sorts ≡ g.sorts
  pub rules : y.part.grammar.rules ≡ rules_at g.sorts k g.rules

-- the parts of the roles of a grammar in order, the first of this one
abbrev pub ArePartsOf : Grammar → ℕ → List RoleYes → Type 0
ArePartsOf g role [] = Unit {0}
ArePartsOf g role (y ∷ ys) = IsPartOf g role y × ArePartsOf g (suc role) ys

-- the grammar has what the parts have in common, and the rules of all in order
pub record HasAll (s : Shared) (all : List Rule) (g : Grammar) : Type 0 where
  pub roles : g.roles ≡ s.roles
  pub cons : g.cons ≡ s.cons
  pub sorts : g.sorts ≡ s.sorts
  pub rules : g.rules ≡ all

-- the grammar is the whole of these parts, of which there is one at least
abbrev pub IsWholeOf : List RoleYes → Grammar → Type 0
IsWholeOf [] g = Never
IsWholeOf (y ∷ ys) g = HasAll (shared_of y) (all_rules (y ∷ ys)) g

-- the part of a role that said yes, as the definitions speak of it
abbrev pub yes_part : RoleYes → R.Part
yes_part y = part_of y.part

-- the dependence relation of the grammar lies within the relations of the roles
abbrev pub LieWithin : List RoleYes → Grammar → Type 0
LieWithin [] g = Never
LieWithin (y ∷ ys) g = R.LiesWithin y.declared (map yes_part (y ∷ ys)) (grammar_of g)
