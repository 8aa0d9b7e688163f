use Rattle.std.proofs.Common.{◌≡◌, ◌*◌, ◌+◌, ◌-◌, map}
use Rattle.aw_term.specs.Views.{ground_of}
use Rattle.aw_codec.specs.Grounds.{ground, in_turn}
use Rattle.aw_codec.proofs.Turns.{with_front}
use Rattle.aw_codec.proofs.grounds.+reading.Given as goal

abbrev pub decreases-ground_at : goal.decreases-ground_at
decreases-ground_at l = 3 * l.levels

abbrev pub decreases-with_parts : goal.decreases-with_parts
decreases-with_parts l = 3 * l.levels + 2

abbrev pub decreases-grounds_at : goal.decreases-grounds_at
decreases-grounds_at l = 3 * l.levels + 1

abbrev pub invariant-grounds_at-loop : goal.invariant-grounds_at-loop
invariant-grounds_at-loop l =
    with_front (map ground_of l.grounds.items) (in_turn (ground l.levels) (l.count - l.counter) l.left l.rest)
    ≡ in_turn (ground l.levels) l.count l.allowed l.bytes
