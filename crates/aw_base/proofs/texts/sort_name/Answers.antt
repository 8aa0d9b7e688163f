use Rattle.std.proofs.Common.{◌∙◌, sym, ap, [], option_map}
use Rattle.std.specs.Prelude.{unwrap_or}
use Rattle.aw_grammar.specs.declared.rule.Sort.{Sort}
use Rattle.aw_base.proofs.NamesAt.{name_of_at}
use Rattle.aw_base.proofs.texts.sort_name.Goals as goal

pub returns-in-Some : goal.returns-in-Some
returns-in-Some c =
    let name = λ (k : Sort). k.name in
    c.as_slice.ensures ∙ sym (name_of_at name c.args.g.now.sorts c.args.sort ∙ ap (λ o. unwrap_or (option_map name o) []) (sym c.in-Some.ensures.value))

pub returns-in-None : goal.returns-in-None
returns-in-None c =
    let name = λ (k : Sort). k.name in
    sym (name_of_at name c.args.g.now.sorts c.args.sort ∙ ap (λ o. unwrap_or (option_map name o) []) (sym c.in-None.ensures.value))
