use Rattle.std.proofs.Common.{◌≡◌, ◌∙◌, ◌++◌, true, false, map, sym, ap}
use Rattle.aw_term.specs.Views.{pattern_of, term_of}
use Rattle.aw_grammar.specs.Written.{written_of, child_of_raw}
use Rattle.aw_grammar.specs.Terms.{args_of}
use Rattle.aw_grammar.specs.Resolved.{numbered, children_numbered}
use Rattle.aw_grammar.specs.Faultless.{all_faultless}
use Rattle.aw_grammar.specs.GrammarView.{child_of}
use Rattle.aw_grammar.specs.GrammarOf.{words_of}
use Rattle.aw_grammar.proofs.Tests.{and_first, and_second, and_last}
use Rattle.aw_grammar.proofs.FaultlessTerms.{faultless_three, made_none, made_some}
use Rattle.aw_grammar.proofs.made.to_rule.Goals as goal

pub returns-in_default : goal.returns-in_default
returns-in_default c =
    let g = c.args.grammar.now in let w = c.args.rule.now in let names = c.args.variables.now.names in
    let ps = map written_of w.patterns in let xs = args_of (map child_of_raw w.children) in let rs = map written_of w.results in
    let first = made_none (all_faultless g.cons names ps) (λ made. map pattern_of made ≡ map (numbered (words_of g).cons names) ps) c.in_ok-patterns.field-0 c.in_default.is c.in_ok-patterns.ensures in
    ap (λ ns. all_faultless g.cons ns (ps ++ (xs ++ rs))) (sym c.requires.variables)
    ∙ sym (and_first (all_faultless g.cons names ps) (all_faultless g.cons names xs) (all_faultless g.cons names rs) first ∙ faultless_three g.cons names ps xs rs)

pub returns-in_default-2 : goal.returns-in_default-2
returns-in_default-2 c =
    let g = c.args.grammar.now in let w = c.args.rule.now in let names = c.args.variables.now.names in
    let ps = map written_of w.patterns in let xs = args_of (map child_of_raw w.children) in let rs = map written_of w.results in
    let first = made_some (all_faultless g.cons names ps) (λ made. map pattern_of made ≡ map (numbered (words_of g).cons names) ps)
    c.in_ok-patterns.field-0 c.in-Some.patterns c.in-Some.is c.in_ok-patterns.ensures in
    let second = made_none (all_faultless g.cons names xs) (λ made. map (child_of g.sorts) made ≡ children_numbered (words_of g) names
    (map child_of_raw w.children)) c.in_ok-children.field-0 c.in_default-2.is c.in_ok-children.ensures in
    ap (λ ns. all_faultless g.cons ns (ps ++ (xs ++ rs))) (sym c.requires.variables)
    ∙ sym (and_second (all_faultless g.cons names ps) (all_faultless g.cons names xs) (all_faultless g.cons names rs) first.0 second ∙ faultless_three g.cons names ps xs rs)

pub returns-in_default-3 : goal.returns-in_default-3
returns-in_default-3 c =
    let g = c.args.grammar.now in let w = c.args.rule.now in let names = c.args.variables.now.names in
    let ps = map written_of w.patterns in let xs = args_of (map child_of_raw w.children) in let rs = map written_of w.results in
    let first = made_some (all_faultless g.cons names ps) (λ made. map pattern_of made ≡ map (numbered (words_of g).cons names) ps)
    c.in_ok-patterns.field-0 c.in-Some.patterns c.in-Some.is c.in_ok-patterns.ensures in
    let second = made_some (all_faultless g.cons names xs) (λ made. map (child_of g.sorts) made ≡ children_numbered (words_of g) names
    (map child_of_raw w.children)) c.in_ok-children.field-0 c.in-Some-2.children c.in-Some-2.is c.in_ok-children.ensures in
    let third = made_none (all_faultless g.cons names rs) (λ made. map term_of made ≡ map (numbered (words_of g).cons names) rs) c.in_ok-results.field-0 c.in_default-3.is c.in_ok-results.ensures in
    ap (λ ns. all_faultless g.cons ns (ps ++ (xs ++ rs))) (sym c.requires.variables)
    ∙ sym (and_last (all_faultless g.cons names ps) (all_faultless g.cons names xs) (all_faultless g.cons names rs) false first.0 second.0 (sym third) ∙ faultless_three g.cons names ps xs rs)

pub returns : goal.returns
returns c =
    let g = c.args.grammar.now in let w = c.args.rule.now in let names = c.args.variables.now.names in
    let ps = map written_of w.patterns in let xs = args_of (map child_of_raw w.children) in let rs = map written_of w.results in
    let first = made_some (all_faultless g.cons names ps) (λ made. map pattern_of made ≡ map (numbered (words_of g).cons names) ps)
    c.in_ok-patterns.field-0 c.in-Some.patterns c.in-Some.is c.in_ok-patterns.ensures in
    let second = made_some (all_faultless g.cons names xs) (λ made. map (child_of g.sorts) made ≡ children_numbered (words_of g) names
    (map child_of_raw w.children)) c.in_ok-children.field-0 c.in-Some-2.children c.in-Some-2.is c.in_ok-children.ensures in
    let third = made_some (all_faultless g.cons names rs) (λ made. map term_of made ≡ map (numbered (words_of g).cons names) rs)
    c.in_ok-results.field-0 c.in-Some-3.results c.in-Some-3.is c.in_ok-results.ensures in (
      ap (λ ns. all_faultless g.cons ns (ps ++ (xs ++ rs))) (sym c.requires.variables)
          ∙ sym (and_last (all_faultless g.cons names ps) (all_faultless g.cons names xs) (all_faultless g.cons names rs) true first.0 second.0 (sym third.0) ∙ faultless_three g.cons names ps xs rs),
      c.in_ok-made_rule.ensures,
    )
