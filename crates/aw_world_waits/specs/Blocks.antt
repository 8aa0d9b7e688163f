-- Who waits for whom in a world, as the sites of the nodes know it.
use Rattle.std.specs.Prelude.{ℕ, List, [], ◌∷◌, ◌++◌, map, Option, Some, None, if◌then◌else◌}
use Rattle.aw_term.specs.Names.{Node}
use Rattle.aw_term.specs.Rules.{Grammar, upto}
use Rattle.aw_term.specs.Choices.{Choice}
use Rattle.aw_term.specs.Artifacts.{Item}
use Rattle.aw_term.specs.Held.{Held}
use Rattle.aw_store.specs.Equations.{Map}
use Rattle.aw_law_sites.specs.Worklists.{open_items}
use Rattle.aw_law_sites.specs.Worlds.{World, site_at, gather}
use Rattle.aw_law_worlds.specs.Laws.{own_items}
use Rattle.aw_world_waits.specs.declared.pair.Pair.{Pair}
use Rattle.aw_world_waits.specs.declared.waiter.Waiter.{Waiter}
use Rattle.aw_world_waits.specs.Waiters.{waits_on, waited_in, is_developed}

-- a node with another for a result of which it waits, so long as no choice was taken on that
abbrev pub pair_on : List Choice → Node → Option Node → List Pair
pair_on cs n None = []
pair_on cs n (Some m) = if is_developed cs m then [] else record { node = n; on = m } ∷ []

-- the pairs of some items, item by item
abbrev pub pairs_of : List Choice → List Item → List Pair
pairs_of cs [] = []
pairs_of cs (i ∷ is) = pair_on cs i.node (waits_on i.refusal) ++ pairs_of cs is

-- Who waits for whom: for each open node in order and each rule of its sort by position the node for a result of which the rule waits there, so long
-- as no choice was taken on that. What a rule waits for is what the site of the open node knows.
abbrev pub waiting : Grammar → World → List Pair
waiting g w = pairs_of w.taken (own_items g w (gather w.sites))

-- a node with each of some others
abbrev pub pairs_with : List Choice → Node → List Node → List Pair
pairs_with cs n [] = []
pairs_with cs n (m ∷ ms) = pair_on cs n (Some m) ++ pairs_with cs n ms

-- a held node, and the nodes for results of which its rules wait over these equations
abbrev pub waiter_at : Grammar → Map → Held → Waiter
waiter_at g k h = record { node = h.node; on = waited_in (open_items g h.state k h) }

-- each node that the site of a role holds
abbrev pub waiters_at : Grammar → World → ℕ → List Waiter
waiters_at g w role = map (waiter_at g (site_at w role).equations) (site_at w role).held

-- the nodes that the sites hold, role by role
abbrev pub waiters_in : Grammar → World → List (List Waiter)
waiters_in g w = map (waiters_at g w) (upto 0 g.roles)
