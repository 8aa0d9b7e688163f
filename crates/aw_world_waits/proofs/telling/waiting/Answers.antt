use Rattle.std.proofs.Common.{map}
use Rattle.std.proofs.lemmas.Result.{IfOk-weaker}
use Rattle.aw_choice.specs.ChoiceView.{choice_of}
use Rattle.aw_grammar.specs.GrammarOf.{grammar_of}
use Rattle.aw_wait.specs.Waiting.{IsFreeOfWaiting}
use Rattle.aw_world_waits.specs.Laws.{StandThere, HaveNoCircle}
use Rattle.aw_world_waits.proofs.Worlds.{stand, no_circle}
use Rattle.aw_world_waits.proofs.telling.waiting.Goals as goal

pub returns-clause-stand : goal.returns-clause-stand
returns-clause-stand g c =
    let w = c.args.world.now in
    let p = grammar_of w.accepted.now.grammar in
    IfOk-weaker c.pairs_at.result _ (λ pairs. StandThere p (map choice_of w.taken.items) pairs) (λ pairs exact. stand g.W.Workspace w pairs exact) c.pairs_at.ensures

pub returns-clause-no_circle : goal.returns-clause-no_circle
returns-clause-no_circle g c =
    let w = c.args.world.now in
    let p = grammar_of w.accepted.now.grammar in
    IfOk-weaker c.pairs_at.result _ (λ pairs. IsFreeOfWaiting p → HaveNoCircle pairs) (λ pairs exact. no_circle g.W.Workspace w pairs exact) c.pairs_at.ensures
