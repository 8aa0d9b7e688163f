-- When types and dependences fit what is declared.
use Rattle.std.specs.Prelude.{◌≡◌, ℕ, ◌+◌, ◌<◌, ◌≤◌, Bool, true, false, ◌||◌, not, List, [], ◌∷◌, map, length, Option, Some, None, is_some, slice_get}
use Rattle.std.specs.List.{list_any}
use Rattle.aw_spelling.specs.Spelling.{is_name}
use Rattle.aw_term.specs.WellFormed.{Each, Later, Differ}
use Rattle.aw_grammar.specs.declared.rule.Con.{Con}
use Rattle.aw_grammar.specs.declared.rule.Sort.{Sort}
use Rattle.aw_grammar.specs.Declarations.{Declarations}
use Rattle.aw_base.specs.declared.declared.Triple.{Triple}
use Rattle.aw_typed.specs.declared.data.Shape.{Shape}
use Rattle.aw_typed.specs.declared.data.Carry.{Carry}
use Rattle.aw_typed.specs.declared.data.Types.{Types}
use Rattle.aw_spec.specs.Reading.{Spec}
use Rattle.aw_spec.specs.TypeLines.{type_names}

-- a list has no items
abbrev pub is_empty : {A : Type 0} → List A → Bool
is_empty [] = true
is_empty (x ∷ xs) = false

-- a type, a shape or a carry is declared
abbrev pub has_type_lines : Types → Bool
has_type_lines t = not (is_empty t.names) || (list_any (λ (o : Option Shape). is_some o) t.shapes || list_any (λ (o : Option Carry). is_some o) t.carries)

-- two lists are as long, and their items go together one by one
abbrev pub Alongside : {A B : Type 0} → (A → B → Type 0) → List A → List B → Type 0
Alongside R [] [] = Unit {0}
Alongside R [] (y ∷ ys) = ⊥
Alongside R (x ∷ xs) [] = ⊥
Alongside R (x ∷ xs) (y ∷ ys) = R x y × Alongside R xs ys

-- a shape, where it is declared, has as many parts as its constructor, and its types are below n
abbrev pub ShapeFits : ℕ → ℕ → Option Shape → Type 0
ShapeFits n arity None = Unit {0}
ShapeFits n arity (Some x) = (length x.parts ≡ arity) × (x.own < n) × Each (λ t. t < n) x.parts

-- a carry, where it is declared, has as many types as its sort has inherited values and results, and these are below n
abbrev pub CarryFits : ℕ → ℕ × ℕ → Option Carry → Type 0
CarryFits n counts None = Unit {0}
CarryFits n counts (Some k) = (length k.takes ≡ counts.0) × (length k.gives ≡ counts.1) × Each (λ t. t < n) k.takes × Each (λ t. t < n) k.gives

-- a dependence is of a sort that has such an inherited value and such a result
abbrev pub IsOfSort : List (ℕ × ℕ) → Triple → Type 0
IsOfSort counts d = (c : ℕ × ℕ) × (slice_get counts d.sort ≡ Some c) × (1 ≤ d.i) × (d.i ≤ c.0) × (1 ≤ d.j) × (d.j ≤ c.1)

-- two dependences differ
abbrev pub AreTwo : Triple → Triple → Type 0
AreTwo a b = a.sort ≡ b.sort → a.i ≡ b.i → a.j ≡ b.j → ⊥

-- types and dependences fit constructors with these numbers of parts and sorts with these numbers of inherited values and results
pub record FitCounts (arities : List ℕ) (counts : List (ℕ × ℕ)) (t : Types) (ds : List Triple) : Type 0 where
  pub typed : t.typed ≡ has_type_lines t
  pub few_types : length t.names ≤ 256
  pub named : Each (λ n. is_name n ≡ true) t.names
  pub differ : Differ (type_names t)
  pub shapes : Alongside (ShapeFits (2 + length t.names)) arities t.shapes
  pub carries : Alongside (CarryFits (2 + length t.names)) counts t.carries
  pub depends : Each (IsOfSort counts) ds
  pub declared_once : Later AreTwo ds

-- how many parts each constructor has, and how many inherited values and results each sort
abbrev pub arities_in : Declarations → List ℕ
arities_in d = map (λ (c : Con). c.arity) d.cons

-- how many inherited values and how many results each sort has
abbrev pub counts_in : Declarations → List (ℕ × ℕ)
counts_in d = map (λ (s : Sort). (s.takes, s.gives)) d.sorts

-- The types of a specification are what its lines of types declare: each name once, and each shape, carry and dependence of what is declared.
abbrev pub TypesFit : Spec → Type 0
TypesFit s = FitCounts (arities_in s.declared) (counts_in s.declared) s.types s.depends
