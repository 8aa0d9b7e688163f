-- A small grammar on which the definitions of types are tried: a clinic asks a laboratory.
--   role clinic · role lab · con blood 1 · con report 2 · con found 2 · con none 0
--   sort visit clinic 0 1 · sort test lab 1 1 · start visit · offer test · use clinic test
use Rattle.std.specs.Prelude.{ℕ, Bool, true, false, [], ◌∷◌}
use Rattle.aw_term.specs.Trees.{Tree, Con, Leaf, Made, Nil, More}
use Rattle.aw_term.specs.Rules.{Term, Rule, Sort, Grammar}

-- a constructor with one part, and one with two
abbrev con1 : {A : Type 0} → ℕ → Tree A → Tree A
con1 c a = Made (Con c) (More a Nil)

-- a constructor with two parts
abbrev con2 : {A : Type 0} → ℕ → Tree A → Tree A → Tree A
con2 c a b = Made (Con c) (More a (More b Nil))

-- a variable of a rule
abbrev var : ℕ → Term
var v = Leaf v

-- a sort at a role, with how many values it takes and gives, and whether cases start with it
abbrev sort : (role takes gives : ℕ) → Bool → Sort
sort role takes gives start = record { role = role; takes = takes; gives = gives; start = start }

-- rule admit {who} : visit()<report(who, r)> = test(blood(who))<r>
abbrev admit : Rule
admit = record {
  sort = 0;
  patterns = [];
  params = 1;
  results = con2 1 (var 0) (var 1) ∷ [];
  children = record { sort = 1; args = con1 0 (var 0) ∷ []; outs = 1 } ∷ [];
}

-- rule analyse {v} : test(blood(w))<found(w, v)>
abbrev analyse : Rule
analyse = record { sort = 1; patterns = con1 0 (var 0) ∷ []; params = 1; results = con2 2 (var 0) (var 1) ∷ []; children = [] }

-- rule skip : test(x)<none>
abbrev skip : Rule
skip = record { sort = 1; patterns = var 0 ∷ []; params = 0; results = Made (Con 3) Nil ∷ []; children = [] }

-- the clinic and its laboratory
abbrev pub clinic : Grammar
clinic = record {
  roles = 2;
  arities = 1 ∷ 2 ∷ 2 ∷ 0 ∷ [];
  sorts = sort 0 0 1 true ∷ sort 1 1 1 false ∷ [];
  rules = admit ∷ analyse ∷ skip ∷ [];
}
