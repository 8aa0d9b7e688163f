use Rattle.std.proofs.Common.{◌≡◌, map}
use Rattle.aw_grammar.specs.GrammarOf.{grammar_of}
use Rattle.aw_law_sites.specs.Worlds as V
use Rattle.aw_term.specs.Rules.{upto}
use Rattle.aw_world.specs.Shown.{Shows}
use Rattle.aw_world_waits.specs.Blocks.{waiters_at}
use Rattle.aw_world_waits.proofs.telling.all_waiters.Given as goal

-- those of the roles so far
abbrev pub invariant-loop-role : goal.invariant-loop-role
invariant-loop-role g l =
    (v : V.World) → Shows g.W.Workspace l.world v → l.all ≡ map (waiters_at (grammar_of l.world.accepted.now.grammar) v) (upto 0 l.role)
