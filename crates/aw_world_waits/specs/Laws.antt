-- What holds of who waits for whom in every world, over all choices and deliveries, late, repeated and out of order.
use Rattle.std.specs.Prelude.{◌≡◌, List, [], Some}
use Rattle.aw_list.specs.Members.{Member}
use Rattle.aw_term.specs.Trees.{Never}
use Rattle.aw_term.specs.Names.{Node}
use Rattle.aw_term.specs.Rules.{Grammar}
use Rattle.aw_term.specs.Configs.{Config}
use Rattle.aw_term.specs.Choices.{Choice, undivided}
use Rattle.aw_iograph.specs.Graphs.{Plus}
use Rattle.aw_law_worlds.specs.Laws.{InEachWorld}
use Rattle.aw_wait.specs.Waiting.{IsFreeOfWaiting, IsPending, WaitsFor}
use Rattle.aw_world_waits.specs.declared.pair.Pair.{Pair}
use Rattle.aw_world_waits.specs.Blocks.{waiting}

-- the pair of these nodes is among the pairs
abbrev pub IsTold : List Pair → Node → Node → Type 0
IsTold ps n m = Member (record { node = n; on = m }) ps

-- each pair of the world stands in the undivided configuration of the choices taken: there too the one pending node waits for the other
abbrev pub PairsStand : Grammar → Type 0
PairsStand g = InEachWorld g (λ loads w. (c : Config) → undivided g [] w.taken ≡ Some c → (n m : Node) → IsTold (waiting g w) n m → WaitsFor g c n m)

-- where the waiting relation of the sorts has no circle, the pairs of the world have none
abbrev pub NoCircleIsTold : Grammar → Type 0
NoCircleIsTold g = IsFreeOfWaiting g → InEachWorld g (λ loads w. (n : Node) → Plus (IsTold (waiting g w)) n n → Never)

-- and where a node is pending in that configuration, there is a pending one that is told to wait for none
abbrev pub SomeIsToldFree : Grammar → Type 0
SomeIsToldFree g = IsFreeOfWaiting g → InEachWorld g (λ loads w. (c : Config) → undivided g [] w.taken ≡ Some c → (n : Node) → IsPending c n →
    (m : Node) × IsPending c m × ((k : Node) → IsTold (waiting g w) m k → Never))

-- these pairs stand in the undivided configuration of these choices
abbrev pub StandThere : Grammar → List Choice → List Pair → Type 0
StandThere g cs ps = (c : Config) → undivided g [] cs ≡ Some c → (n m : Node) → IsTold ps n m → ∥ WaitsFor g c n m ∥₁

-- no node is told to wait for itself, through whatever others
abbrev pub HaveNoCircle : List Pair → Type 0
HaveNoCircle ps = (n : Node) → Plus (IsTold ps) n n → Never
