use Rattle.std.proofs.Common.{◌∙◌, map, sym}
use Rattle.aw_grammar.specs.Written.{written_of, child_of_raw}
use Rattle.aw_grammar.specs.Terms.{args_of}
use Rattle.aw_grammar.specs.Kinds.{all_known}
use Rattle.aw_grammar.specs.GrammarOf.{words_of}
use Rattle.aw_grammar.proofs.ThreeLists.{known_three}
use Rattle.aw_grammar.proofs.Tests.{and_first, and_second, and_last}
use Rattle.aw_grammar.proofs.rule_kinds.knows_terms.Goals as goal

pub returns-then-not-are_known : goal.returns-then-not-are_known
returns-then-not-are_known c =
    let w = c.args.rule.now in
    let g = c.args.grammar.now in
    let ps = map written_of w.patterns in let rest = args_of (map child_of_raw w.children) in let rs = map written_of w.results in
    and_first (all_known g.con_index ps) (all_known g.con_index rest) (all_known g.con_index rs) (sym c.are_known.ensures ∙ c.if-not-are_known.true)
    ∙ known_three g.con_index (words_of g).cons g.con_names ps rest rs

pub returns-then-not-args_are_known : goal.returns-then-not-args_are_known
returns-then-not-args_are_known c =
    let w = c.args.rule.now in
    let g = c.args.grammar.now in
    let ps = map written_of w.patterns in let rest = args_of (map child_of_raw w.children) in let rs = map written_of w.results in
    and_second (all_known g.con_index ps) (all_known g.con_index rest) (all_known g.con_index rs) (sym c.are_known.ensures ∙ c.if-not-are_known.false)
    (sym c.args_are_known.ensures ∙ c.if-not-args_are_known.true)
    ∙ known_three g.con_index (words_of g).cons g.con_names ps rest rs

pub returns : goal.returns
returns c =
    let w = c.args.rule.now in
    let g = c.args.grammar.now in
    let ps = map written_of w.patterns in let rest = args_of (map child_of_raw w.children) in let rs = map written_of w.results in
    and_last (all_known g.con_index ps) (all_known g.con_index rest) (all_known g.con_index rs) c.are_known-2.result
    (sym c.are_known.ensures ∙ c.if-not-are_known.false) (sym c.args_are_known.ensures ∙ c.if-not-args_are_known.false) c.are_known-2.ensures
    ∙ known_three g.con_index (words_of g).cons g.con_names ps rest rs
