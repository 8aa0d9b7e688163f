use Rattle.std.proofs.Common.{◌++◌, map, ap, ◌∙◌}
use Rattle.std.proofs.lemmas.Result.{on_ok_weaker}
use Rattle.aw_choice.specs.ChoiceView.{item_of}
use Rattle.aw_grammar.specs.GrammarOf.{words_of}
use Rattle.aw_grammar.specs.declared.grammar.Grammar.{Grammar}
use Rattle.aw_replay.specs.Telling.{listed}
use Rattle.aw_replay.proofs.telling.list_lines.Goals as goal

pub returns-clause-text : goal.returns-clause-text
returns-clause-text g c =
    let d = c.args.world.now.accepted.now.grammar in
    let role = c.args.role in
    let items = map item_of c.as_slice.result.now in
    on_ok_weaker c.push_list.result (λ e v S.
    e
    ∙ ap (λ t. t ++ listed (words_of c.args.names.now.grammar.now) role items) c.requires.empty
    ∙ ap (λ (h : Grammar). listed (words_of h) role items) c.requires.named
    ∙ ap (λ xs. listed (words_of d) role (map item_of xs)) c.as_slice.ensures
    ∙ ap (listed (words_of d) role) (c.in_ok-items.ensures v S)) c.push_list.ensures.text
