-- What a store answers, as the plain definitions speak of it.
use Rattle.std.specs.Prelude.{◌≡◌, ◌≢◌, Bool, true, ◌&&◌, List, [], ◌∷◌, ◌++◌, length, Option, Some, None, slice_get, nat_le, ◌⊎◌}
use Rattle.aw_term.specs.Trees as T
use Rattle.aw_term.specs.Trees.{Never}
use Rattle.aw_term.specs.Names.{Ref}
use Rattle.aw_term.specs.Limits.{most_parts}
use Rattle.aw_store.specs.Equations as P
use Rattle.aw_store.specs.Equations.{Map, find, mentions}
use Rattle.aw_store.specs.EquationView.{body_of, equation_of}
use Rattle.aw_store.specs.declared.equation.Body.{Body}
use Rattle.aw_store.specs.declared.equation.Equation.{Equation}
use Rattle.aw_store.specs.declared.facts.Kind.{Kind}
use Rattle.aw_store.specs.declared.facts.Kind.TheVariants as kind
use Rattle.aw_store.specs.declared.facts.Added.{Added}
use Rattle.aw_store.specs.declared.facts.Added.TheVariants as added

-- the kind is that of this body
abbrev pub IsKindOf : List Ref → Option P.Body → Kind → Type 0
IsKindOf names None kind.Missing = Unit {0}
IsKindOf names (Some (P.Same r)) (kind.Same slot) = slice_get names slot ≡ Some r
IsKindOf names (Some (P.Is (T.Con c) parts)) (kind.Con d n) = (d ≡ c) × (n ≡ length parts)
IsKindOf names (Some (P.Is (T.Num n) parts)) (kind.Num m) = (m ≡ n) × (parts ≡ [])
IsKindOf names (Some (P.Is (T.Text t) parts)) kind.Text = parts ≡ []
IsKindOf names _ _ = Never

-- New where there was no equation, Same where there was this one, Conflict where there was another; only New changes the map.
abbrev pub Adds : Map → Equation → Added → Map → Type 0
Adds old e added.New new = (find old e.left ≡ None) × (new ≡ old ++ equation_of e ∷ [])
Adds old e added.Same new = (find old e.left ≡ Some (body_of e.body)) × (new ≡ old)
Adds old e (added.Conflict kept came) new = (find old e.left ≡ Some (body_of kept)) × (came ≡ e.body) × (body_of kept ≢ body_of came) × (new ≡ old)

-- the left side has no equation, or it has this one
abbrev pub IsAddable : Map → P.Equation → Type 0
IsAddable k e = (find k e.left ≡ None) ⊎ (find k e.left ≡ Some e.body)

-- a constructor has few references
abbrev pub has_few : P.Equation → Bool
has_few e = nat_le (length (mentions e.body)) most_parts

-- each of these equations has few references in its body
abbrev pub all_few : Map → Bool
all_few [] = true
all_few (e ∷ es) = has_few e && all_few es

-- one body beside the one that is kept
abbrev pub Compares : Body → Body → Added → Type 0
Compares kept came added.New = Never
Compares kept came added.Same = kept ≡ came
Compares kept came (added.Conflict k c) = (k ≡ kept) × (c ≡ came) × (kept ≢ came)
