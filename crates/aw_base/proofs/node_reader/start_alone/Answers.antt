use Rattle.std.proofs.Common.{◌∙◌, sym, ap, option_map, option_copied}
use Rattle.aw_spelling.specs.Spelling.{steps_of, parts_behind}
use Rattle.aw_grammar.specs.GrammarOf.{grammar_of, words_of}
use Rattle.aw_base.proofs.ReadFronts.{start_is_named}
use Rattle.aw_base.proofs.node_reader.start_alone.Goals as goal

pub returns-in_ok-sort-in-None : goal.returns-in_ok-sort-in-None
returns-in_ok-sort-in-None c =
    let name = c.in_ok-name.name in
    start_is_named (words_of c.args.g.now) (grammar_of c.args.g.now) c.args.part.now name.start.now name.case c.in_ok-sort-in-None.sort
    (c.in_ok-name.ensures.value ∙ ap (λ m. option_map (λ trail. (name.start.now, name.case, trail)) (steps_of (parts_behind (option_copied m)))) c.in-None.is)
    (sym c.start_named.ensures ∙ c.in_ok-sort-in-None.was)
