-- What is printed is read again.
use Rattle.std.specs.Prelude.{◌≡◌, ◌<◌, ◌≤◌, ◌^◌, true, length, is_some}
use Rattle.aw_term.specs.Names.{Node}
use Rattle.aw_term.specs.Rules.{Grammar, sort_of}
use Rattle.aw_term.specs.Artifacts.{Words, node_text}
use Rattle.aw_term.specs.WellFormed.{IsWellFormed}
use Rattle.aw_name.specs.Limits.{most_steps}
use Rattle.aw_base.specs.NodeNames.{Named, node_read}

-- a node that the program can hold: its case is a 64-bit word, and it has few steps
pub record IsHeld (n : Node) : Type 0 where
  pub case : n.case < 2 ^ 64
  pub steps : length n.steps ≤ most_steps

-- the name of a valid node, once printed, names that node
abbrev pub PrintedNodeIsRead : Type 0
PrintedNodeIsRead =
    (w : Words) (g : Grammar) (n : Node) → IsWellFormed w g → IsHeld n → is_some (sort_of g n) ≡ true → node_read w g (node_text w n) ≡ Named n
