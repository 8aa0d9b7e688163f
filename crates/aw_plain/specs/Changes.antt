-- What a taken rule makes of each row, and rows that are put in the places of others.
use Rattle.std.specs.Prelude.{◌≡◌, ℕ, ◌+◌, ◌<◌, List, [], ◌∷◌, ◌++◌, length, map, take, drop, slice_set, slice_index_or}
use Rattle.aw_term.specs.Names.{Node}
use Rattle.aw_term.specs.Rules.{Value}
use Rattle.aw_term.specs.Configs as Q
use Rattle.aw_term.specs.Configs.{Done, done_row}
use Rattle.aw_term.specs.Views.{ground_of}
use Rattle.aw_plain_rows.specs.declared.row.Row.{Row}
use Rattle.aw_plain.specs.declared.change.Change.{Change}
use Rattle.aw_plain.specs.declared.taking.Taking.{Taking}
use Rattle.aw_plain_rows.specs.Rounds.{row_fed}
use Rattle.aw_plain_rows.specs.TreeView.{values_of}
use Rattle.aw_plain_rows.specs.RowView.{config_of}

-- a row that was held, after a rule was taken on n
abbrev pub row_after : Node → Q.State → List Value → Q.Row → Q.Row
row_after n s results q = row_fed n results (done_row n s q)

-- a row that was held, after this rule was taken
abbrev pub row_taken : Taking → Q.Row → Q.Row
row_taken t q = row_after t.node.now (Done t.number (map ground_of t.args.now)) (values_of t.results.now) q

-- the rows with each of these put in its place
abbrev pub changed : List Row → List Change → List Row
changed rows [] = rows
changed rows (x ∷ xs) = changed (slice_set rows x.at x.row) xs

-- with these changes the rows before place i are as f makes them, and the others as they were
abbrev pub IsChangedTo : (Q.Row → Q.Row) → List Row → List Change → ℕ → Type 0
IsChangedTo f rows xs i = config_of (changed rows xs) ≡ map f (take i (config_of rows)) ++ drop i (config_of rows)

-- where this row stands at place i: if the first changes are right for the rows before i, the second are right for those up to i
abbrev pub AreRightPast : (Q.Row → Q.Row) → ℕ → Row → List Change → List Change → Type 0
AreRightPast f i row old new = (rows : List Row) → i < length rows → row ≡ slice_index_or rows i row → IsChangedTo f rows old i → IsChangedTo f rows new (i + 1)
