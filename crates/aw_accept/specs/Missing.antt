-- What a choice waits for.
use Rattle.std.specs.Prelude.{◌≡◌, ℕ, ◌<◌, ◌≤◌}
use Rattle.aw_list.specs.Members.{Member}
use Rattle.aw_term.specs.Trees.{Never}
use Rattle.aw_term.specs.Names.{Ref, result}
use Rattle.aw_term.specs.Rules.{Grammar}
use Rattle.aw_term.specs.Configs.{Pending, Row, Config}
use Rattle.aw_term.specs.Choices.{Choice, WaitsFor, CircleAt, answer}
use Rattle.aw_accept.specs.Acyclic.{IsTree, IsWhole, gives}

-- a result of a pending row, by a number from 1 to as many as its sort gives
abbrev pub IsMissing : Grammar → Config → Ref → Type 0
IsMissing g c h = (p : Row) × (j : ℕ) × Member p c × (p.state ≡ Pending) × (h ≡ result p.node j) × (0 < j) × (j ≤ gives g p.sort)

-- what a choice waits for is such a result
abbrev pub WaitsForMissing : Grammar → Type 0
WaitsForMissing g = (c : Config) (x : Choice) (h : Ref) → IsTree g c → IsWhole c → answer g c x ≡ WaitsFor h → IsMissing g c h

-- on trees no choice is answered with a circle
abbrev pub TellsNoCircle : Grammar → Type 0
TellsNoCircle g = (c : Config) (x : Choice) (h : Ref) → answer g c x ≡ CircleAt h → Never
