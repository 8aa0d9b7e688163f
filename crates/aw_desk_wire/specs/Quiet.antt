-- The turns of a courier over a wire of desks that answer as typed sites.
use Rattle.std.specs.Prelude.{◌≡◌, ◌<◌, ◌^◌, Bool, List, [], map, length}
use Rattle.aw_term.specs.Rules.{Grammar}
use Rattle.aw_term.specs.Trees.{Never}
use Rattle.aw_term.specs.WellFormed.{Each}
use Rattle.aw_law_sites.specs.Sites.{Site}
use Rattle.aw_law_sites.specs.Worlds.{Move}
use Rattle.aw_law_worlds.specs.Laws.{MayCome, world_after}
use Rattle.aw_law_nodes.specs.Couriers as C
use Rattle.aw_law_nodes.specs.Couriers.{new_courier, visit_frames, AreTurns}
use Rattle.aw_law_nodes.specs.Encodable.{IsEncodable}
use Rattle.aw_law_nodes.specs.Nodes.{Frame, Push, Choose, Pull, Listed, sites_after}
use Rattle.aw_law_nodes.specs.Sizes.{GrammarSized, MoveSized}
use Rattle.aw_node.specs.TypedNodes.{Rules, answers}
use Rattle.aw_courier.specs.Carrying.{sessions_of}
use Rattle.aw_courier.specs.Frames.{size}
use Rattle.aw_courier.specs.Honest.{Visit, visit_of, IsHonest}
use Rattle.aw_courier.specs.Turns.{Turn, told_as, IsHeard}
use Rattle.aw_desk_wire.specs.Honest.{AreHonest}

-- a request of a courier that has bytes: the push of a message that has them, or a pull from a place of eight bytes
abbrev pub IsReadable : Grammar → Frame → Type 0
IsReadable g (Push m) = IsEncodable g m
IsReadable g (Choose c) = Never
IsReadable g (Pull place) = place < 2 ^ 64
IsReadable g (Listed place) = Never

-- each request of a turn
abbrev pub AreReadable : Grammar → Turn → Type 0
AreReadable g t = Each (IsReadable g) t.session.asked

-- a turn before which no choice is made: a courier has the wire to itself
abbrev pub alone : Turn → Visit
alone t = record { choices = []; turn = t }

-- the turns without their bytes, and no choice before any
abbrev pub all_alone : List Turn → List C.Visit
all_alone turns = map visit_of (map alone turns)

-- Where typed sites answered all that was written in these turns, whose requests have bytes, what was read in each of them begins the bytes of what these
-- sites reply to its requests; and behind all turns they are the sites that were asked.
abbrev pub TurnsAreHonest : Rules → Type 0
TurnsAreHonest r = (ss us : List Site) (turns : List Turn) → Each (λ (t : Turn). t.session.role < length ss) turns → Each (AreReadable r.grammar) turns →
    AreHonest (answers r) ss us (map told_as turns) →
    IsHonest r.words r.grammar ss (map alone turns) × (us ≡ sites_after r.grammar ss (visit_frames r.grammar (all_alone turns)))

-- The same of a courier at the sites of a world all of whose choices have their sizes, where what its turns were is known by `carry`: that its requests
-- have bytes is no premise.
abbrev pub WorldIsHonest : Rules → Type 0
WorldIsHonest r = GrammarSized r.grammar → (loads : Bool) (es : List Move) → Each (MayCome r.grammar) es → Each MoveSized es → (us : List Site) (turns : List Turn) →
    AreTurns size r.grammar (new_courier r.grammar) (sessions_of turns) → Each (λ (t : Turn). t.session.role < r.grammar.roles) turns → Each (IsHeard r.grammar) turns →
    AreHonest (answers r) (world_after r.grammar loads es).sites us (map told_as turns) →
    IsHonest r.words r.grammar (world_after r.grammar loads es).sites (map alone turns)
    × (us ≡ sites_after r.grammar (world_after r.grammar loads es).sites (visit_frames r.grammar (all_alone turns)))
