-- The same grammar with one role alone, at which every task is.
use Rattle.std.specs.Prelude.{ℕ, List, [], ◌∷◌, map, codes}
use Rattle.aw_term.specs.Rules.{Sort, Grammar}
use Rattle.aw_term.specs.Artifacts.{Words}

-- the sort at role 0
abbrev pub at_one_role : Sort → Sort
at_one_role s = record { role = 0; takes = s.takes; gives = s.gives; start = s.start }

-- one role, each sort at it, and all else as it was
abbrev pub united : Grammar → Grammar
united g = record { roles = 1; arities = g.arities; sorts = map at_one_role g.sorts; rules = g.rules }

-- the name of the one role
abbrev pub everyone : List ℕ
everyone = codes "everyone"

-- its name, and all other names as they were
abbrev pub united_words : Words → Words
united_words w = record { roles = everyone ∷ []; cons = w.cons; sorts = w.sorts; rules = w.rules }
