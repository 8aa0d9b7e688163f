-- What a match gives, as the plain definitions speak of it.
use Rattle.std.specs.Prelude.{ℕ, List, ◌++◌}
use Rattle.aw_term.specs.Names.{Ref}
use Rattle.aw_term.specs.Rules.{Value}
use Rattle.aw_term.specs.Matching as Q
use Rattle.aw_choice.specs.ChoiceView.{path_of}
use Rattle.aw_plain.specs.declared.matching.Matched.{Matched}
use Rattle.aw_plain.specs.declared.matching.Matched.TheVariants.{Yes, Waits, Differs}
use Rattle.aw_plain_rows.specs.TreeView.{values_of}

-- what a match gives, with values and references as plain ones
abbrev pub matched_of : Matched → Q.Matched Value Ref
matched_of (Yes ts) = Q.Yes (values_of ts)
matched_of (Waits r) = Q.Waits r
matched_of (Differs path) = Q.Differs (path_of path)

-- the match of what stands behind this path
abbrev pub behind : {A R : Type 0} → List ℕ → Q.Matched A R → Q.Matched A R
behind path (Q.Differs p) = Q.Differs (path ++ p)
behind path m = m
