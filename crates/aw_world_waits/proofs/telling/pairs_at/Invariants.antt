use Rattle.std.proofs.Common.{◌≡◌, ◌++◌, drop}
use Rattle.aw_grammar.specs.GrammarOf.{grammar_of}
use Rattle.aw_law_sites.specs.Worlds as V
use Rattle.aw_law_worlds.specs.Laws.{own_items}
use Rattle.aw_world.specs.Shown.{Shows}
use Rattle.aw_world_waits.specs.Blocks.{pairs_of, waiting}
use Rattle.aw_world_waits.proofs.telling.pairs_at.Given as goal

-- the pairs so far, and those of the nodes that are left
abbrev pub invariant-loop-spot : goal.invariant-loop-spot
invariant-loop-spot g l =
    (v : V.World) → Shows g.W.Workspace l.world v
    → l.pairs ++ pairs_of v.taken (own_items (grammar_of l.world.accepted.now.grammar) v (drop l.spot-index (V.gather v.sites))) ≡ waiting (grammar_of l.world.accepted.now.grammar) v
