use Rattle.std.proofs.Common.{◌∙◌, map, sym}
use Rattle.aw_grammar.specs.Written.{written_of, child_of_raw}
use Rattle.aw_grammar.specs.Terms.{args_of}
use Rattle.aw_grammar.specs.Kinds.{all_have_arities}
use Rattle.aw_grammar.proofs.ThreeLists.{arities_three}
use Rattle.aw_grammar.proofs.Tests.{and_first, and_second, and_last}
use Rattle.aw_grammar.proofs.rule_kinds.terms_have_arities.Goals as goal

pub returns-then-not-have_arities : goal.returns-then-not-have_arities
returns-then-not-have_arities c =
    let w = c.args.rule.now in
    let g = c.args.grammar.now in
    let ps = map written_of w.patterns in let rest = args_of (map child_of_raw w.children) in let rs = map written_of w.results in
    and_first (all_have_arities g.cons ps) (all_have_arities g.cons rest) (all_have_arities g.cons rs) (sym c.have_arities.ensures ∙ c.if-not-have_arities.true)
    ∙ arities_three g.cons ps rest rs

pub returns-then-not-args_have_arities : goal.returns-then-not-args_have_arities
returns-then-not-args_have_arities c =
    let w = c.args.rule.now in
    let g = c.args.grammar.now in
    let ps = map written_of w.patterns in let rest = args_of (map child_of_raw w.children) in let rs = map written_of w.results in
    and_second (all_have_arities g.cons ps) (all_have_arities g.cons rest) (all_have_arities g.cons rs) (sym c.have_arities.ensures
    ∙ c.if-not-have_arities.false) (sym c.args_have_arities.ensures ∙ c.if-not-args_have_arities.true)
    ∙ arities_three g.cons ps rest rs

pub returns : goal.returns
returns c =
    let w = c.args.rule.now in
    let g = c.args.grammar.now in
    let ps = map written_of w.patterns in let rest = args_of (map child_of_raw w.children) in let rs = map written_of w.results in
    and_last (all_have_arities g.cons ps) (all_have_arities g.cons rest) (all_have_arities g.cons rs) c.have_arities-2.result
    (sym c.have_arities.ensures ∙ c.if-not-have_arities.false) (sym c.args_have_arities.ensures ∙ c.if-not-args_have_arities.false) c.have_arities-2.ensures
    ∙ arities_three g.cons ps rest rs
