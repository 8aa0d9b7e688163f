-- Rows as the plain definitions speak of them.
use Rattle.std.specs.Prelude.{List, map}
use Rattle.aw_term.specs.Configs as Q
use Rattle.aw_term.specs.Views.{ground_of}
use Rattle.aw_plain_rows.specs.declared.row.State.{State}
use Rattle.aw_plain_rows.specs.declared.row.State.TheVariants.{Pending, Done}
use Rattle.aw_plain_rows.specs.declared.row.Row.{Row}
use Rattle.aw_plain_rows.specs.TreeView.{values_of}

-- a state of the program as the plain one
abbrev pub plain_state : State → Q.State
plain_state Pending = Q.Pending
plain_state (Done rule args) = Q.Done rule (map ground_of args)

-- a row of the program as the plain one
abbrev pub plain_row : Row → Q.Row
plain_row r = record { node = r.node; sort = r.sort; inherited = values_of r.inherited; results = values_of r.results; state = plain_state r.state }

-- the configuration of these rows of the program
abbrev pub config_of : List Row → Q.Config
config_of rows = map plain_row rows
