-- In a well-formed grammar each variable of a term enters.
use Rattle.std.proofs.Common.{◌≡◌, ℕ, suc, ◌<◌, List, [], ◌∷◌, ◌++◌, map, length, Option, Some, None, slice_get, replicate, refl, subst, inl, inr, arith, length-append}
use Rattle.std.specs.Prelude.{◌⊎◌}
use Rattle.std.proofs.lemmas.List.{length-replicate, length-map}
use Rattle.aw_list.specs.Members.{Member}
use Rattle.aw_list.proofs.Members.{never, member_left, member_right, member_got}
use Rattle.aw_iograph.specs.declared.occ.Occ.{Occ}
use Rattle.aw_term.specs.Trees.{In}
use Rattle.aw_term.specs.Rules.{Term, Child, Rule, Grammar, upto}
use Rattle.aw_term.specs.Artifacts.{Words}
use Rattle.aw_term.specs.WellFormed.{leaves, leaves_of, outs_of, variables, ChildFits, RuleFits, IsWellFormed}
use Rattle.aw_iograph.specs.Occurrences.{given, inherited, pattern_entries, child_entries, entries}
use Rattle.aw_accept.proofs.ConfigLemmas.{length-upto}
use Rattle.aw_iograph.proofs.TextFlows.{leaf_there}
use Rattle.aw_accept.proofs.Fitting.{each_member}

-- a result or an argument of a rule
abbrev pub IsTermOf : Rule → Term → Type 0
IsTermOf r t = Member t r.results ⊎ ((k : ℕ) × (d : Child) × (slice_get r.children k ≡ Some d) × Member t d.args)

-- each variable of each term enters
abbrev pub VariablesEnter : Grammar → Type 0
VariablesEnter g = (r : Rule) → Member r g.rules → (t : Term) → IsTermOf r t → (v : ℕ) → In v t → v < length (entries r)

leaf_of : (ts : List Term) (t : Term) (v : ℕ) → Member t ts → In v t → Member v (leaves_of ts)
leaf_of [] t v m i = never m
leaf_of (u ∷ ts) t v (inl e) i = member_left v (leaves u) (leaves_of ts) (leaf_there v u (subst (In v) e i))
leaf_of (u ∷ ts) t v (inr m) i = member_right v (leaves u) (leaves_of ts) (leaf_of ts t v m i)

length-pattern_entries : (i : ℕ) (ps : List Term) → length (pattern_entries i ps) ≡ length (leaves_of ps)
length-pattern_entries i [] = refl
length-pattern_entries i (p ∷ ps) =
    omega (
      arith,
      length-append (map (λ v. Some (inherited 0 i)) (leaves p)) (pattern_entries (suc i) ps),
      length-map (leaves p)
          (λ v. Some (inherited 0 i)),
      length-pattern_entries (suc i) ps,
      length-append (leaves p) (leaves_of ps),
    )

length-child_entries : (k : ℕ) (cs : List Child) → length (child_entries k cs) ≡ outs_of cs
length-child_entries k [] = refl
length-child_entries k (c ∷ cs) =
    omega (
      arith,
      length-append (map (λ l. Some (given k l)) (upto 1 c.outs)) (child_entries (suc k) cs),
      length-map (upto 1 c.outs)
          (λ l. Some (given k l)),
      length-upto 1 c.outs,
      length-child_entries (suc k) cs,
    )

pub length-entries : (r : Rule) → length (entries r) ≡ variables r
length-entries r =
    omega (
      arith,
      length-append (pattern_entries 1 r.patterns) (replicate r.params None ++ child_entries 1 r.children),
      length-append (replicate r.params None) (child_entries 1 r.children),
      length-pattern_entries 1 r.patterns,
      length-child_entries 1 r.children,
      length-replicate {A = Option Occ} r.params None,
    )

enters : (g : Grammar) (r : Rule) → RuleFits g r → (t : Term) → IsTermOf r t → (v : ℕ) → In v t → v < variables r
enters g r fits t (inl m) v i = each_member (λ v. v < variables r) (leaves_of r.results) v fits.enter (leaf_of r.results t v m i)
enters g r fits t (inr (k, d, e, m)) v i =
    let child = each_member (ChildFits g (variables r)) r.children d fits.children (member_got r.children k d e) in
    each_member (λ v. v < variables r) (leaves_of d.args) v child.enter (leaf_of d.args t v m i)

pub variables_enter : (w : Words) (g : Grammar) → IsWellFormed w g → VariablesEnter g
variables_enter w g formed r m t o v i =
    let lt = enters g r (each_member (RuleFits g) g.rules r formed.rules m) t o v i in
    omega (arith, lt, length-entries r)
