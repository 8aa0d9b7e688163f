-- Terms in which nothing is wrong, told word by word, and what is made of them.
use Rattle.std.specs.Prelude.{◌≡◌, ℕ, Bool, true, false, ◌&&◌, ◌||◌, List, [], ◌∷◌, length, Option, Some, None, nat_eq}
use Rattle.aw_name_index.specs.Places.{stands}
use Rattle.aw_grammar.specs.declared.rule.Con.{Con}
use Rattle.aw_grammar.specs.Written.{Written, Word, Apply, Literal, Writtens, Empty, Then, WrittenRule}
use Rattle.aw_grammar.specs.Terms.{terms_of}
use Rattle.aw_grammar.specs.Resolved.{entering}
use Rattle.aw_grammar.specs.Declarations.{Declarations, con_names}
use Rattle.aw_grammar.specs.Kinds.{con_called, count_parts, sort_called, takes_and_gives, children_fit}

-- the constructor of this name is declared, and with this number of parts
abbrev pub is_declared : ℕ → Option Con → Bool
is_declared n None = false
is_declared n (Some c) = nat_eq c.arity n

-- each bare word of a term is one of the variables or a constructor without parts, and each constructor with parentheses is declared with as many parts
abbrev mutual
  pub is_faultless : List Con → List (List ℕ) → Written → Bool
  is_faultless cons variables (Word x) = stands x variables || is_declared 0 (con_called x cons)
  is_faultless cons variables (Apply x ts) = is_declared (count_parts ts) (con_called x cons) && parts_are_faultless cons variables ts
  is_faultless cons variables (Literal h) = true

  pub parts_are_faultless : List Con → List (List ℕ) → Writtens → Bool
  parts_are_faultless cons variables Empty = true
  parts_are_faultless cons variables (Then t ts) = is_faultless cons variables t && parts_are_faultless cons variables ts

-- so are all of these terms
abbrev pub all_faultless : List Con → List (List ℕ) → List Written → Bool
all_faultless cons variables [] = true
all_faultless cons variables (t ∷ ts) = is_faultless cons variables t && all_faultless cons variables ts

-- the rule and its children have the values and results of their sorts, and its terms are faultless by the variables that enter
abbrev pub is_faultless_rule : Declarations → WrittenRule → Bool
is_faultless_rule d r =
    takes_and_gives (sort_called r.sort d.sorts) (length r.patterns) (length r.results)
    && (children_fit d.sorts r.children && all_faultless d.cons (entering (con_names d) r) (terms_of r))

-- something is made just where nothing is wrong, and then it holds of what is made
abbrev pub IsMade : {A : Type 0} → Bool → (A → Type 0) → Option A → Type 0
IsMade faultless Holds None = faultless ≡ false
IsMade faultless Holds (Some made) = (faultless ≡ true) × Holds made
