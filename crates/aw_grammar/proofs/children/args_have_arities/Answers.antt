use Rattle.std.proofs.Common.{◌∙◌, ◌+◌, ◌&&◌, map, drop, sym, ap}
use Rattle.aw_grammar.specs.Written.{written_of, child_of_raw}
use Rattle.aw_grammar.specs.Terms.{args_of}
use Rattle.aw_grammar.specs.Kinds.{all_have_arities}
use Rattle.aw_grammar.proofs.Appends.{arities_append}
use Rattle.aw_grammar.proofs.Steps.{and_stops, and_goes}
use Rattle.aw_grammar.proofs.children.args_have_arities.Goals as goal

pub returns-then-not-have_arities : goal.returns-then-not-have_arities
returns-then-not-have_arities c =
    and_stops (λ cs. all_have_arities c.args.grammar.now.cons (args_of (map child_of_raw cs))) c.as_slice-child-items.result.now
    c.loop-child.child-index c.child-item.result c.have_arities.result c.loop-child-test.true c.child-item.is
    (arities_append c.args.grammar.now.cons (map written_of c.child-item.result.args)
    (args_of (map child_of_raw (drop (c.loop-child.child-index + 1) c.as_slice-child-items.result.now)))
    ∙ ap (λ b. b && (all_have_arities c.args.grammar.now.cons
    (args_of (map child_of_raw (drop (c.loop-child.child-index + 1) c.as_slice-child-items.result.now))))) (sym c.have_arities.ensures))
    c.if-not-have_arities.true _ c.loop-child.invariant

pub loop-child-preserved : goal.loop-child-preserved
loop-child-preserved c =
    and_goes (λ cs. all_have_arities c.args.grammar.now.cons (args_of (map child_of_raw cs))) c.as_slice-child-items.result.now
    c.loop-child.child-index c.child-item.result c.have_arities.result c.loop-child-test.true c.child-item.is
    (arities_append c.args.grammar.now.cons (map written_of c.child-item.result.args)
    (args_of (map child_of_raw (drop (c.loop-child.child-index + 1) c.as_slice-child-items.result.now)))
    ∙ ap (λ b. b && (all_have_arities c.args.grammar.now.cons
    (args_of (map child_of_raw (drop (c.loop-child.child-index + 1) c.as_slice-child-items.result.now))))) (sym c.have_arities.ensures))
    c.if-not-have_arities.false _ c.loop-child.invariant
