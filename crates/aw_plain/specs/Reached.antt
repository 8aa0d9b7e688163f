-- Configurations of the undivided run.
use Rattle.std.specs.Prelude.{◌≡◌, List, [], Some}
use Rattle.aw_term.specs.Rules.{Grammar}
use Rattle.aw_term.specs.Configs.{Config}
use Rattle.aw_term.specs.Choices.{Choice, undivided}

-- what some choices lead to, each of them taken in turn, from no rows
abbrev pub IsReached : Grammar → Config → Type 0
IsReached g c = (cs : List Choice) × (undivided g [] cs ≡ Some c)
