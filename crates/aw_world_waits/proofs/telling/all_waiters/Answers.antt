use Rattle.std.proofs.Common.{rules, ◌≡◌, [], ◌∷◌, ◌++◌, map, ap, sym, ◌∙◌}
use Rattle.aw_term.specs.Rules.{upto}
use Rattle.aw_grammar.specs.GrammarOf.{grammar_of}
use Rattle.aw_world.proofs.Growing.{all_end}
use Rattle.aw_world_waits.specs.Blocks.{waiters_at}
use Rattle.aw_world_waits.proofs.telling.all_waiters.Goals as goal

pub loop-role-preserved : goal.loop-role-preserved
loop-role-preserved g c = λ v S.
    let p = grammar_of c.args.world.now.accepted.now.grammar in
    let role = c.loop-role.role in
    c.in_ok-push.ensures.ok ∙ (λ t. c.loop-role.invariant v S t ++ c.in_ok-waiters_of.ensures v S t ∷ []) ∙ sym (all_end (waiters_at p v) role)

pub returns : goal.returns
returns g c = λ v S.
    let p = grammar_of c.args.world.now.accepted.now.grammar in
    let all : c.loop-role.role ≡ p.roles = search rules in
    c.loop-role.invariant v S ∙ ap (λ n. map (waiters_at p v) (upto 0 n)) all
