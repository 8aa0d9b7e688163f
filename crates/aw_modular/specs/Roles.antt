-- Roles checked apart: what the rules of one role say of its own sorts, given what is declared of the sorts of others.
use Rattle.std.specs.Prelude.{◌≡◌, ℕ, zero, suc, true, List, [], ◌∷◌, ◌++◌, Some, None, ◌⊎◌, slice_get}
use Rattle.aw_list.specs.Members.{Member}
use Rattle.aw_term.specs.Trees.{Never}
use Rattle.aw_term.specs.Rules.{Rule, Grammar}
use Rattle.aw_term.specs.WellFormed.{Each}
use Rattle.aw_iograph.specs.Graphs.{Plus}
use Rattle.aw_iograph.specs.Occurrences.{inherited, given}
use Rattle.aw_iograph.specs.Dependence.{Edge, Walk, IO, HasNoCircle}
use Rattle.aw_base.specs.declared.declared.Triple.{Triple}
use Rattle.aw_face.specs.declared.faces.Using.{Using}
use Rattle.aw_face.specs.Faces.{role_of, is_offered, face_fault}

-- what a list declares
abbrev pub Declares : List Triple → ℕ → ℕ → ℕ → Type 0
Declares ts s i j = Member (record { sort = s; i = i; j = j }) ts

-- the sort is one of the role
abbrev pub IsOf : Grammar → ℕ → ℕ → Type 0
IsOf g role s = role_of g.sorts s ≡ role

-- one relation at the sorts of a role, another at all other sorts
abbrev pub Mixed : Grammar → ℕ → (ℕ → ℕ → ℕ → Type 0) → (ℕ → ℕ → ℕ → Type 0) → ℕ → ℕ → ℕ → Type 0
Mixed g role own others s i j = (IsOf g role s × own s i j) ⊎ ((IsOf g role s → Never) × others s i j)

-- after h rounds: the pairs of the role's own sorts with a walk over the pairs of the round before at children of the role, and over what is declared at all other children
abbrev pub role_io : Grammar → ℕ → (ℕ → ℕ → ℕ → Type 0) → ℕ → ℕ → ℕ → ℕ → Type 0
role_io g role declared zero s i j = Never
role_io g role declared (suc h) s i j = IsOf g role s × Walk g (Mixed g role (role_io g role declared h) declared) s i j

-- the relation of a role on its own sorts: the pairs of all rounds
abbrev pub RoleRelation : Grammar → ℕ → (ℕ → ℕ → ℕ → Type 0) → ℕ → ℕ → ℕ → Type 0
RoleRelation g role declared s i j = (h : ℕ) × role_io g role declared h s i j

-- no rule of the role has a walk beyond a relation, with this relation at children of the role and what is declared at all other children
abbrev pub IsClosedFor : Grammar → ℕ → (ℕ → ℕ → ℕ → Type 0) → (ℕ → ℕ → ℕ → Type 0) → Type 0
IsClosedFor g role declared rel = (r : Rule) → Member r g.rules → IsOf g role r.sort → (i j : ℕ) → Plus (Edge r (Mixed g role rel declared)) (inherited 0 i) (given 0 j) → rel r.sort i j

-- each rule is of a sort of the role
abbrev pub HasOwnRules : ℕ → Grammar → Type 0
HasOwnRules role g = (r : Rule) → Member r g.rules → IsOf g role r.sort

-- what is declared of the sorts of other roles
abbrev pub DeclaredElsewhere : Grammar → ℕ → (ℕ → ℕ → ℕ → Type 0) → ℕ → ℕ → ℕ → Type 0
DeclaredElsewhere g role declared s i j = (IsOf g role s → Never) × declared s i j

-- what a role finds of its own sorts, and what is declared of the sorts of others
abbrev pub Known : Grammar → ℕ → List Triple → ℕ → ℕ → ℕ → Type 0
Known g role declared s i j = Mixed g role (RoleRelation g role (Declares declared)) (Declares declared) s i j

-- what one role is checked with: a grammar with the rules of the role alone, and which sorts its role uses
pub record Part : Type 0 where
  pub grammar : Grammar
  pub uses : List Using

-- A role says yes: it keeps to the faces, in none of its rules does an occurrence reach itself, and what it finds of the sorts that are offered is declared.
pub record SaysYes (offers : List ℕ) (declared : List Triple) (role : ℕ) (p : Part) : Type 0 where
  pub own : HasOwnRules role p.grammar
  pub faces : face_fault p.grammar offers p.uses ≡ None
  pub no_circle : HasNoCircle p.grammar (Known p.grammar role declared)
  pub declares : (s i j : ℕ) → is_offered s offers ≡ true → RoleRelation p.grammar role (Declares declared) s i j → Declares declared s i j

-- each role does, the first with this number
abbrev pub AllSayYes : List ℕ → List Triple → ℕ → List Part → Type 0
AllSayYes offers declared role [] = Unit {0}
AllSayYes offers declared role (p ∷ ps) = SaysYes offers declared role p × AllSayYes offers declared (suc role) ps

-- the rules of the parts in order
abbrev pub rules_of : List Part → List Rule
rules_of [] = []
rules_of (p ∷ ps) = p.grammar.rules ++ rules_of ps

-- the whole has the sorts of each part, and the rules of all
pub record IsJoined (parts : List Part) (g : Grammar) : Type 0 where
  pub sorts : Each (λ p. p.grammar.sorts ≡ g.sorts) parts
  pub rules : g.rules ≡ rules_of parts

-- the dependence relation of the whole lies within the relations of the roles
abbrev pub LiesWithin : List Triple → List Part → Grammar → Type 0
LiesWithin declared parts g = (s i j : ℕ) → IO g s i j → (role : ℕ) × (p : Part) × (slice_get parts role ≡ Some p) × IsOf g role s × RoleRelation p.grammar role (Declares declared) s i j
