-- What is told of a grammar: each dependence where it is accepted, and else its least circle.
use Rattle.std.specs.Prelude.{◌≡◌, ◌↔◌, ℕ, Bool, IsTrue, List, [], ◌++◌, length, codes, flat_map, slice_get, if◌then◌else◌}
use Rattle.std.specs.Fmt.{decimal}
use Rattle.aw_term.specs.Rules.{Grammar, get, upto}
use Rattle.aw_term.specs.Choices.{gives_of}
use Rattle.aw_term.specs.WellFormed.{takes_of}
use Rattle.aw_term.specs.Artifacts.{Words}
use Rattle.aw_iograph.specs.declared.occ.Occ.{Occ}
use Rattle.aw_iograph.specs.Dependence.{IO}
use Rattle.aw_accept.specs.declared.refused.Fault.{Fault}

-- `io test 1 1`: result j of the sort depends on its inherited value i
abbrev pub pair_line : List ℕ → ℕ → ℕ → List ℕ
pair_line sort i j = codes "io " ++ (sort ++ (codes " " ++ (decimal i ++ (codes " " ++ (decimal j ++ codes "\n")))))

-- the line of a pair, where the result depends on the inherited value
abbrev pub pair_lines : (ℕ → ℕ → Bool) → List ℕ → ℕ → ℕ → List ℕ
pair_lines depends sort i j = if depends i j then pair_line sort i j else []

-- the lines of an inherited value, for so many results
abbrev pub value_lines : (ℕ → ℕ → Bool) → List ℕ → ℕ → ℕ → List ℕ
value_lines depends sort gives i = flat_map (pair_lines depends sort i) (upto 1 gives)

-- the lines of so many inherited values and results
abbrev pub sort_lines : (ℕ → ℕ → Bool) → List ℕ → ℕ → ℕ → List ℕ
sort_lines depends sort takes gives = flat_map (value_lines depends sort gives) (upto 1 takes)

-- the lines of a sort, by its number from 0
abbrev pub lines_of_sort : (ℕ → ℕ → ℕ → Bool) → Words → Grammar → ℕ → List ℕ
lines_of_sort depends w g s = sort_lines (depends s) (get [] w.sorts s) (takes_of (slice_get g.sorts s)) (gives_of (slice_get g.sorts s))

-- `accepted`, and then a line for each pair, by sort, inherited value and result
abbrev pub accepted_text : (ℕ → ℕ → ℕ → Bool) → Words → Grammar → List ℕ
accepted_text depends w g = codes "accepted\n" ++ flat_map (lines_of_sort depends w g) (upto 0 (length g.sorts))

-- the test tells which result of a sort depends on which of its inherited values
abbrev pub IsDependence : Grammar → (ℕ → ℕ → ℕ → Bool) → Type 0
IsDependence g depends = (s i j : ℕ) → IsTrue (depends s i j) ↔ IO g s i j

-- what is told of an accepted grammar
abbrev pub TellsAccepted : Words → Grammar → List ℕ → Type 0
TellsAccepted w g text = (depends : ℕ → ℕ → ℕ → Bool) × IsDependence g depends × (text ≡ accepted_text depends w g)

-- `out` for a result, `in` for an inherited value
abbrev pub side_text : Bool → List ℕ
side_text is_result = if is_result then codes "out" else codes "in"

-- `1.in2` is inherited value 2 of child 1, and `0.out1` result 1 of the left side
abbrev pub occ_text : Occ → List ℕ
occ_text o = decimal o.child ++ (codes "." ++ (side_text o.result ++ decimal o.number))

-- `loop at 1.in1`: a rule, and an occurrence in it that depends on itself
abbrev pub circle_text : Words → Fault → List ℕ
circle_text w fault = get [] w.rules fault.rule ++ (codes " at " ++ occ_text fault.occ)
