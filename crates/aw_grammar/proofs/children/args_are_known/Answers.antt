use Rattle.std.proofs.Common.{◌∙◌, ◌+◌, ◌&&◌, map, drop, sym, ap}
use Rattle.aw_grammar.specs.Written.{written_of, child_of_raw}
use Rattle.aw_grammar.specs.Terms.{args_of}
use Rattle.aw_grammar.specs.Kinds.{all_known}
use Rattle.aw_grammar.proofs.Appends.{known_append}
use Rattle.aw_grammar.proofs.Steps.{and_stops, and_goes}
use Rattle.aw_grammar.proofs.children.args_are_known.Goals as goal

pub returns-then-not-are_known : goal.returns-then-not-are_known
returns-then-not-are_known c =
    and_stops (λ cs. all_known c.args.cons.now (args_of (map child_of_raw cs))) c.as_slice-child-items.result.now c.loop-child.child-index
    c.child-item.result c.are_known.result c.loop-child-test.true c.child-item.is
    (known_append c.args.cons.now (map written_of c.child-item.result.args)
    (args_of (map child_of_raw (drop (c.loop-child.child-index + 1) c.as_slice-child-items.result.now)))
    ∙ ap (λ b. b && (all_known c.args.cons.now
    (args_of (map child_of_raw (drop (c.loop-child.child-index + 1) c.as_slice-child-items.result.now))))) (sym c.are_known.ensures))
    c.if-not-are_known.true _ c.loop-child.invariant

pub loop-child-preserved : goal.loop-child-preserved
loop-child-preserved c =
    and_goes (λ cs. all_known c.args.cons.now (args_of (map child_of_raw cs))) c.as_slice-child-items.result.now c.loop-child.child-index
    c.child-item.result c.are_known.result c.loop-child-test.true c.child-item.is
    (known_append c.args.cons.now (map written_of c.child-item.result.args)
    (args_of (map child_of_raw (drop (c.loop-child.child-index + 1) c.as_slice-child-items.result.now)))
    ∙ ap (λ b. b && (all_known c.args.cons.now
    (args_of (map child_of_raw (drop (c.loop-child.child-index + 1) c.as_slice-child-items.result.now))))) (sym c.are_known.ensures))
    c.if-not-are_known.false _ c.loop-child.invariant
