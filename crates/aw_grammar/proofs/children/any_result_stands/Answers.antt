use Rattle.std.proofs.Common.{◌∙◌, ◌+◌, ◌||◌, map, drop, sym, ap}
use Rattle.aw_grammar.specs.Written.{child_of_raw}
use Rattle.aw_grammar.specs.Terms.{results_of}
use Rattle.aw_name_index.specs.Places.{any_stands}
use Rattle.aw_grammar.proofs.Appends.{any_append}
use Rattle.aw_grammar.proofs.Steps.{or_stops, or_goes}
use Rattle.aw_grammar.proofs.children.any_result_stands.Goals as goal

pub returns-then-contains_any : goal.returns-then-contains_any
returns-then-contains_any c =
    or_stops (λ cs. any_stands (results_of (map child_of_raw cs)) c.args.index.now) c.as_slice-child-items.result.now c.loop-child.child-index
    c.child-item.result c.contains_any.result c.loop-child-test.true c.child-item.is
    (any_append c.args.index.now c.child-item.result.results
    (results_of (map child_of_raw (drop (c.loop-child.child-index + 1) c.as_slice-child-items.result.now)))
    ∙ ap (λ b. b || (any_stands (results_of (map child_of_raw (drop (c.loop-child.child-index + 1) c.as_slice-child-items.result.now)))
    c.args.index.now)) (ap (λ names. any_stands names c.args.index.now) (sym c.as_slice.ensures) ∙ sym c.contains_any.ensures))
    c.if-contains_any.true _ c.loop-child.invariant

pub loop-child-preserved : goal.loop-child-preserved
loop-child-preserved c =
    or_goes (λ cs. any_stands (results_of (map child_of_raw cs)) c.args.index.now) c.as_slice-child-items.result.now c.loop-child.child-index
    c.child-item.result c.contains_any.result c.loop-child-test.true c.child-item.is
    (any_append c.args.index.now c.child-item.result.results
    (results_of (map child_of_raw (drop (c.loop-child.child-index + 1) c.as_slice-child-items.result.now)))
    ∙ ap (λ b. b || (any_stands (results_of (map child_of_raw (drop (c.loop-child.child-index + 1) c.as_slice-child-items.result.now)))
    c.args.index.now)) (ap (λ names. any_stands names c.args.index.now) (sym c.as_slice.ensures) ∙ sym c.contains_any.ensures))
    c.if-contains_any.false _ c.loop-child.invariant
