use Rattle.std.proofs.Common.{◌∙◌, map, sym, ap}
use Rattle.aw_name_index.specs.Places.{any_stands}
use Rattle.aw_grammar.specs.Written.{child_of_raw}
use Rattle.aw_grammar.specs.Terms.{results_of}
use Rattle.aw_grammar.specs.GrammarOf.{words_of}
use Rattle.aw_grammar.proofs.Appends.{any_append}
use Rattle.aw_grammar.proofs.Tests.{or_first, or_last}
use Rattle.aw_grammar.proofs.rule_kinds.clashes.Goals as goal

pub returns-then-contains_any : goal.returns-then-contains_any
returns-then-contains_any c =
    let cons = (words_of c.args.grammar.now).cons in
    let rest = results_of (map child_of_raw c.args.rule.now.children) in
    or_first (any_stands c.args.rule.now.params cons) (any_stands rest cons)
    (ap (any_stands c.args.rule.now.params) (sym c.args.grammar.now.con_names) ∙ ap (λ ns. any_stands ns c.args.grammar.now.con_index)
    (sym c.as_slice.ensures) ∙ sym c.contains_any.ensures ∙ c.if-contains_any.true)
    ∙ sym (any_append cons c.args.rule.now.params rest)

pub returns : goal.returns
returns c =
    let cons = (words_of c.args.grammar.now).cons in
    let rest = results_of (map child_of_raw c.args.rule.now.children) in
    or_last (any_stands c.args.rule.now.params cons) (any_stands rest cons) c.any_result_stands.result
    (ap (any_stands c.args.rule.now.params) (sym c.args.grammar.now.con_names) ∙ ap (λ ns. any_stands ns c.args.grammar.now.con_index)
    (sym c.as_slice.ensures) ∙ sym c.contains_any.ensures ∙ c.if-contains_any.false)
    (c.any_result_stands.ensures ∙ ap (any_stands rest) c.args.grammar.now.con_names)
    ∙ sym (any_append cons c.args.rule.now.params rest)
