use Rattle.std.proofs.Common.{◌∙◌, sym, ap, [], option_map}
use Rattle.std.specs.Prelude.{unwrap_or}
use Rattle.aw_grammar.specs.declared.rule.Con.{Con}
use Rattle.aw_base.proofs.NamesAt.{name_of_at}
use Rattle.aw_base.proofs.texts.con_name.Goals as goal

pub returns-in-Some : goal.returns-in-Some
returns-in-Some c =
    let name = λ (k : Con). k.name in
    c.as_slice.ensures ∙ sym (name_of_at name c.args.g.now.cons c.args.con ∙ ap (λ o. unwrap_or (option_map name o) []) (sym c.in-Some.ensures.value))

pub returns-in-None : goal.returns-in-None
returns-in-None c =
    let name = λ (k : Con). k.name in
    sym (name_of_at name c.args.g.now.cons c.args.con ∙ ap (λ o. unwrap_or (option_map name o) []) (sym c.in-None.ensures.value))
