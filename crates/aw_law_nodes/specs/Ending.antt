-- How long a courier goes on.
use Rattle.std.specs.Prelude.{ℕ, ◌*◌, ◌≤◌, Bool, List, map, length}
use Rattle.aw_term.specs.Rules.{Grammar}
use Rattle.aw_term.specs.WellFormed.{Each}
use Rattle.aw_law_sites.specs.Bounds.{bound_of}
use Rattle.aw_law_sites.specs.Worlds.{Move}
use Rattle.aw_law_worlds.specs.Laws.{MayCome, world_after}
use Rattle.aw_law_nodes.specs.Couriers.{flat, IsSpentCall, IsHonestWire, NoChoice, Visit, session_of}
use Rattle.aw_law_nodes.specs.Nodes.{Frame}

-- over a wire that was honest for a world, at whose sites no choice was made meanwhile, rounds that each had a move are at most twice as many as the
-- bound on the messages of that world, whatever the sizes of frames
abbrev pub RoundsAreBounded : Grammar → Type 0
RoundsAreBounded g = (size : Frame → ℕ) (loads : Bool) (es : List Move) → Each (MayCome g) es → (rounds : List (List Visit)) →
    IsSpentCall size g (map (map session_of) rounds) → Each NoChoice (flat rounds) → IsHonestWire g (world_after g loads es).sites (flat rounds) →
    length rounds ≤ 2 * bound_of g (world_after g loads es).taken
