-- What makes a specification writable, so that its text is read as the same specification again.
use Rattle.std.specs.Prelude.{◌≡◌, ◌^◌, ◌<◌, length, None}
use Rattle.aw_term.specs.Trees.{Head, Con, Num, Text, Tree, Leaf, Made, Trees, Nil, More}
use Rattle.aw_term.specs.Rules as P
use Rattle.aw_term.specs.WellFormed.{Each, Later, IsWellFormed}
use Rattle.aw_grammar.specs.Variables.{VariablesFit}
use Rattle.aw_grammar.specs.Declarations.{Entry, Declarations, con_names, grammar_in, words_in}
use Rattle.aw_face.specs.declared.faces.Using.{Using}
use Rattle.aw_face.specs.Faces.{face_fault}
use Rattle.aw_spec.specs.Reading.{Spec}
use Rattle.aw_spec.specs.TypesFit.{TypesFit}

-- a number of 64 bits
abbrev pub IsSmall : Head → Type 0
IsSmall (Con c) = Unit {0}
IsSmall (Num n) = n < 2 ^ 64
IsSmall (Text t) = Unit {0}

-- each number of a term has 64 bits
abbrev mutual
  pub NumbersFit : {A : Type 0} → Tree A → Type 0
  NumbersFit (Leaf x) = Unit {0}
  NumbersFit (Made h ts) = IsSmall h × PartsFit ts

  pub PartsFit : {A : Type 0} → Trees A → Type 0
  PartsFit Nil = Unit {0}
  PartsFit (More t ts) = NumbersFit t × PartsFit ts

-- each number of a rule has 64 bits
pub record SmallNumbers (r : P.Rule) : Type 0 where
  pub patterns : Each NumbersFit r.patterns
  pub results : Each NumbersFit r.results
  pub children : Each (λ (c : P.Child). Each NumbersFit c.args) r.children

-- the variables of each rule have names, one each, none twice, and none a constructor's
abbrev pub VariablesNamed : Declarations → Type 0
VariablesNamed d = Each (λ (e : Entry). VariablesFit (con_names d) e.vars e.rule) d.rules

-- two uses are not of one role and one sort
abbrev pub AreApart : Using → Using → Type 0
AreApart u v = u.role ≡ v.role → u.sort ≡ v.sort → ⊥

-- The rules keep to the faces, which name declared roles and sorts only, and each offer and each use once.
pub record FacesFit (s : Spec) : Type 0 where
  pub kept : face_fault (grammar_in s.declared) s.offers s.uses ≡ None
  pub offers : Each (λ sort. sort < length s.declared.sorts) s.offers
  pub offered_once : Later (λ a b. a ≡ b → ⊥) s.offers
  pub uses : Each (λ (u : Using). (u.role < length s.declared.roles) × (u.sort < length s.declared.sorts)) s.uses
  pub used_once : Later AreApart s.uses

-- A specification that can be written: it is well formed, its numbers have 64 bits, its variables have names, and its faces and its types fit it.
pub record IsWritable (s : Spec) : Type 0 where
  pub formed : IsWellFormed (words_in s.declared) (grammar_in s.declared)
  pub numbers : Each (λ (e : Entry). SmallNumbers e.rule) s.declared.rules
  pub variables : VariablesNamed s.declared
  pub faces : FacesFit s
  pub types : TypesFit s
