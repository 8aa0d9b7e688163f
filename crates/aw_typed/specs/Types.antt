-- Types of data: of a constructor's parts, and of the values of a sort.
use Rattle.std.specs.Prelude.{◌≡◌, ℕ, Bool, List, [], length, Option, Some, None, slice_get, option_and_then}
use Rattle.aw_term.specs.Trees.{Head, Con, Num, Text}
use Rattle.aw_term.specs.Rules.{Sort, Grammar}

-- the types of a constructor's parts, and its own
pub record Shape : Type 0 where
  pub parts : List ℕ
  pub own : ℕ

-- the types of a sort's inherited values, and of its results
pub record Carry : Type 0 where
  pub takes : List ℕ
  pub gives : List ℕ

-- Type 0 is that of numbers, type 1 that of texts; then come the declared ones. There is a shape for each constructor and a carry for each sort, where it is declared.
pub record Types : Type 0 where
  pub typed : Bool
  pub names : ℕ
  pub shapes : List (Option Shape)
  pub carries : List (Option Carry)

-- the value as it is
abbrev pub same : {A : Type 0} → Option A → Option A
same o = o

-- the shape of a constructor, where it is declared
abbrev pub shape_of : Types → ℕ → Option Shape
shape_of T c = option_and_then same (slice_get T.shapes c)

-- the carry of a sort, where it is declared
abbrev pub carry_of : Types → ℕ → Option Carry
carry_of T s = option_and_then same (slice_get T.carries s)

-- the types that a carry takes, and those that it gives
abbrev pub takes_in : Option Carry → List ℕ
takes_in None = []
takes_in (Some k) = k.takes

-- the types that a carry gives; none where it is not declared
abbrev pub gives_in : Option Carry → List ℕ
gives_in None = []
gives_in (Some k) = k.gives

-- the types of a sort's inherited values
abbrev pub takes : Types → ℕ → List ℕ
takes T s = takes_in (carry_of T s)

-- the types of a sort's results
abbrev pub gives : Types → ℕ → List ℕ
gives T s = gives_in (carry_of T s)

-- the shape of what stands at an inner place: a number and a text have a type of their own and no parts
abbrev pub head_shape : Types → Head → Option Shape
head_shape T (Con c) = shape_of T c
head_shape T (Num n) = Some (record { parts = []; own = 0 })
head_shape T (Text t) = Some (record { parts = []; own = 1 })

-- each carry that is declared has as many types as its sort has values
pub record AreFor (g : Grammar) (T : Types) : Type 0 where
  pub shapes : length T.shapes ≡ length g.arities
  pub carries : length T.carries ≡ length g.sorts
  pub parts : (c n : ℕ) (x : Shape) → slice_get g.arities c ≡ Some n → shape_of T c ≡ Some x → length x.parts ≡ n
  pub takes : (s : ℕ) (t : Sort) (k : Carry) → slice_get g.sorts s ≡ Some t → carry_of T s ≡ Some k → length k.takes ≡ t.takes
  pub gives : (s : ℕ) (t : Sort) (k : Carry) → slice_get g.sorts s ≡ Some t → carry_of T s ≡ Some k → length k.gives ≡ t.gives
