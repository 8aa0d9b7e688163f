use Rattle.std.proofs.Common.{◌≡◌, ◌∙◌, ◌++◌, ◌∷◌, [], ap, refl, rules}
use Rattle.std.proofs.lemmas.List.Elements.{same_from_all_zip}
use Rattle.aw_grammar.proofs.Steps.{gathers}
use Rattle.aw_grammar.proofs.children.push_names.Goals as goal

pub loop-name-preserved : goal.loop-name-preserved
loop-name-preserved c =
    let same : c.in_ok-clone.field-0 ≡ c.name-item.result = search (rules, same_from_all_zip) in
    gathers (λ names. names) c.args.more.now c.loop-name.name-index c.name-item.result (c.name-item.result ∷ []) c.loop-name-test.true c.name-item.is refl
    c.loop-name.names c.push.new.self _ (c.in_ok-push.ensures.ok ∙ ap (λ name. c.loop-name.names ++ name ∷ []) same) c.loop-name.invariant
