-- Steps within a rule as arcs between the places of its occurrences.
use Rattle.std.specs.Prelude.{◌≡◌, ℕ, suc, ◌<◌, Bool, true, false, ◌⊎◌, List, map, length, Option, Some, slice_get}
use Rattle.aw_list.specs.Members.{Member}
use Rattle.aw_term.specs.Rules.{Rule}
use Rattle.aw_term.specs.Views.{term_of}
use Rattle.aw_term.specs.declared.term.Expr.{Expr}
use Rattle.aw_grammar.specs.declared.rule.Child.{Child}
use Rattle.aw_iograph.specs.declared.rows.Arc.{Arc}
use Rattle.aw_iograph.specs.declared.occ.Occ.{Occ}
use Rattle.aw_iograph.specs.declared.occ.Flow.{Flow}
use Rattle.aw_iograph.specs.declared.io.Io.{Io}
use Rattle.aw_iograph.specs.Occurrences.{inherited, given, IsPlace, place_of, term_flows}
use Rattle.aw_iograph.specs.Dependence.{Edge}
use Rattle.aw_iograph.specs.Pairs.{Has}

-- a flow from one occurrence to another, as an arc between their places
abbrev pub arc_of : Flow → Arc
arc_of f = record { from = place_of f.from; to = place_of f.to }

-- at a child, from an inherited value to a result
abbrev pub call_arc : ℕ → ℕ → ℕ → Arc
call_arc k i l = arc_of (record { from = inherited k i; to = given k l })

-- an arc of one of these flows
abbrev pub IsFlow : List Flow → Arc → Type 0
IsFlow flows a = (f : Flow) × Member f flows × (a ≡ arc_of f)

-- at child k, the arc of this pair of its sort, where the relation has it
abbrev pub IsCallOf : Io → ℕ → ℕ → ℕ → ℕ → Arc → Type 0
IsCallOf io s k i l a = Has io s i l × (a ≡ call_arc k i l)

-- the same where a mark says whether the relation has the pair
abbrev pub IsMarkedCall : Bool → ℕ → ℕ → ℕ → Arc → Type 0
IsMarkedCall marked k i l a = (marked ≡ true) × (a ≡ call_arc k i l)

-- at child k, an arc of a pair of its sort
abbrev pub IsCall : Io → ℕ → ℕ → Arc → Type 0
IsCall io s k a = (i : ℕ) × (l : ℕ) × IsCallOf io s k i l a

-- an arc to an argument of child k, or of a pair of its sort
abbrev pub IsOfChild : List (Option Occ) → Io → ℕ → Child → Arc → Type 0
IsOfChild es io k c a = IsFlow (term_flows es k false 1 (map term_of c.args)) a ⊎ IsCall io c.sort k a

-- such an arc of one of the first n children
abbrev pub IsOfChildren : List (Option Occ) → Io → List Child → ℕ → Arc → Type 0
IsOfChildren es io children n a = (k : ℕ) × (c : Child) × (k < n) × (slice_get children k ≡ Some c) × IsOfChild es io (suc k) c a

-- an arc of a child, or to one of these results of the left side
abbrev pub IsStep : List (Option Occ) → Io → List Child → List Expr → Arc → Type 0
IsStep es io children results a = IsOfChildren es io children (length children) a ⊎ IsFlow (term_flows es 0 true 1 (map term_of results)) a

-- each arc of a kind is between places
abbrev pub ArePlaced : (Arc → Type 0) → Type 0
ArePlaced P = (a : Arc) → P a → (a.from < 144) × (a.to < 144)

-- the arcs of a kind are the steps of the rule, each between places
pub record IsGraphBy (r : Rule) (rel : ℕ → ℕ → ℕ → Type 0) (P : Arc → Type 0) : Type 0 where
  pub there : (o u : Occ) → Edge r rel o u → P (arc_of (record { from = o; to = u }))
  pub only : (a : Arc) → P a → (o : Occ) × (u : Occ) × IsPlace o × IsPlace u × Edge r rel o u × (a ≡ arc_of (record { from = o; to = u }))
  pub places : (o u : Occ) → Edge r rel o u → IsPlace o × IsPlace u
