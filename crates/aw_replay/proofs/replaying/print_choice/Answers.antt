use Rattle.std.proofs.Common.{ℕ, take, ap, sym, ◌∙◌, subst}
use Rattle.aw_grammar.specs.GrammarOf.{grammar_of}
use Rattle.aw_law_sites.specs.Worlds as V
use Rattle.aw_choice.specs.ChoiceView.{choice_of}
use Rattle.aw_choice.specs.Events as E
use Rattle.aw_world.specs.Shown.{Shows}
use Rattle.aw_list.proofs.Fronts.{on_err_held as on_err}
use Rattle.aw_law_sites.specs.Outputs.{moves_of}
use Rattle.aw_replay.proofs.Events.{all_taken}
use Rattle.aw_law_worlds.proofs.Headlining.{event_runs}
use Rattle.aw_replay.proofs.replaying.print_choice.Goals as goal

pub returns-clause-some : goal.returns-clause-some
returns-clause-some g c =
    let p = grammar_of c.args.world.now.accepted.now.grammar in
    let e = E.Chooses (choice_of c.args.choice.now) in
    let x = c.choice_lines.new.world in
    let kept : (v : V.World) → Shows g.W.Workspace c.args.world.now v → (k : ℕ) × Shows g.W.Workspace x (V.run p v (take k (moves_of p v e))) = λ v s.
    let b = all_taken (moves_of p v e) in
    (b.0, subst (Shows g.W.Workspace x) (sym (ap (V.run p v) b.1 ∙ event_runs p v e)) (c.in_ok-choice_lines.ensures.does v s)) in
    on_err _ kept
