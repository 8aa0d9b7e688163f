use Rattle.std.proofs.Common.{◌≡◌, ◌-◌, List, length, take, sym, ◌∙◌, subst, rules, IfOk}
use Rattle.aw_name.specs.declared.node.Step.{Step}
use Rattle.aw_book_drive.proofs.FrontSteps.{front-take}
use Rattle.aw_book_drive.proofs.senders.front_of.Goals as goal

pub returns : goal.returns
returns c =
    let same : c.in_ok-to_vec.field-0.items ≡ take (length c.args.steps.now - 1) c.args.steps.now = search rules in
    subst (λ (ss : List Step). IfOk c.from_vec.result (λ t. t ≡ ss)) (same ∙ sym (front-take c.args.steps.now)) c.from_vec.ensures
