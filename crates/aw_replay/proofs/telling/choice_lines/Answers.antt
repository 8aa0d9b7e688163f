use Rattle.std.proofs.Common.{◌++◌, ap, ◌∙◌}
use Rattle.aw_list.proofs.Fronts.{on_err_held as on_err}
use Rattle.aw_choice.specs.ChoiceView.{choice_of}
use Rattle.aw_choice.specs.Events as E
use Rattle.aw_law_sites.specs.Outputs.{event_lines}
use Rattle.aw_law_sites.specs.Worlds as V
use Rattle.aw_world.specs.WorldView.{plain_of, named_by}
use Rattle.aw_replay.specs.Telling.{DoesSome}
use Rattle.aw_replay.proofs.Arms.{some_step}
use Rattle.aw_replay.proofs.telling.choice_lines.Goals as goal

pub returns-in_err-tell_choice-clause-some : goal.returns-in_err-tell_choice-clause-some
returns-in_err-tell_choice-clause-some g c =
    let kept : DoesSome g.W.Workspace c.args.world.now c.tell_choice.new.world (E.Chooses (choice_of c.args.choice.now)) =
    λ v s. some_step g.W.Workspace c.args.world.now c.tell_choice.new.world (V.Chooses (choice_of c.args.choice.now)) c.in_err-tell_choice.ensures.some v s in
    on_err _ kept

pub returns-clause-tells : goal.returns-clause-tells
returns-clause-tells g c = λ v s.
    let w = c.args.world.now in
    c.in_ok-tell_choice.ensures.text v s ∙ ap (λ t. t ++ event_lines (named_by w) (plain_of w) v (E.Chooses (choice_of c.args.choice.now))) c.requires.empty
