use Rattle.std.proofs.Common.{◌∙◌, ap, ◌++◌}
use Rattle.std.specs.Fmt.{decimal}
use Rattle.aw_choice.specs.ChoiceView.{path_of}
use Rattle.aw_base.proofs.NamesAt.{place_added}
use Rattle.aw_base.proofs.texts.add_place.Goals as goal

pub returns-clause-ok : goal.returns-clause-ok
returns-clause-ok c =
    let place = c.args.place.now in
    place_added c.add_path.result c.args.text.now c.push_number.new.text c.add_path.new.text place.attribute (path_of place.path) c.path_steps.result.now
    (c.in_ok-push_number.ensures.ok ∙ ap (λ n. c.args.text.now ++ decimal n) c.from.ensures) c.path_steps.ensures c.add_path.ensures.ok
