use Rattle.std.proofs.Common.{◌++◌, sym, ap, subst, ◌∙◌, arith}
use Rattle.std.proofs.lemmas.List.{take_all}
use Rattle.std.specs.List.{flat_map}
use Rattle.std.proofs.lemmas.List.Folds.{flat_map-map}
use Rattle.aw_store.specs.EquationView.{equation_of}
use Rattle.aw_codec.proofs.Adding.{one_more, each_at, each_more_seen}
use Rattle.aw_msg.specs.Spelling.{spelled_equation}
use Rattle.aw_msg.specs.MessageRanges.{EquationSized, EquationInRange}
use Rattle.aw_msg.proofs.writing.add_each_equation.Goals as goal

pub add_equation-requires : goal.add_equation-requires
add_equation-requires c =
    subst (λ e. EquationInRange (equation_of e)) (sym c.equation-item.is) (each_at EquationInRange equation_of c.args.equations.now
    c.loop-equation.equation-index c.equation-item.result c.loop-equation-test.true c.requires)

pub loop-equation-preserved : goal.loop-equation-preserved
loop-equation-preserved c = record {
  added =
      one_more (λ e. spelled_equation (equation_of e)) c.args.equations.now c.loop-equation.equation-index c.equation-item.result c.args.text.now
      c.loop-equation.text c.add_equation.new.text c.loop-equation-test.true c.equation-item.is
      c.loop-equation.invariant.added c.in_ok-add_equation.ensures.ok;
  sized =
      each_more_seen EquationSized equation_of c.args.equations.now c.loop-equation.equation-index c.equation-item.result c.loop-equation-test.true
      c.equation-item.is c.loop-equation.invariant.sized c.in_ok-add_equation.ensures.sized;
}

pub returns-clause-ok : goal.returns-clause-ok
returns-clause-ok c =
    c.loop-equation.invariant.added ∙ ap (λ ys. c.args.text.now ++ flat_map (λ e. spelled_equation (equation_of e)) ys) (take_all c.loop-equation.equation-index c.args.equations.now (omega arith))
    ∙ ap (λ u. c.args.text.now ++ u) (sym (flat_map-map spelled_equation equation_of c.args.equations.now))
