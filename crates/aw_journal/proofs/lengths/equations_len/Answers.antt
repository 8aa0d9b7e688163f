use Rattle.std.proofs.Common.{arith}
use Rattle.aw_store.specs.EquationView.{equation_of}
use Rattle.aw_msg.specs.Spelling.{spelled_equation}
use Rattle.aw_journal.proofs.Counts.{counted_more, counted_all}
use Rattle.aw_journal.proofs.lengths.equations_len.Goals as goal

pub loop-equation-preserved : goal.loop-equation-preserved
loop-equation-preserved c =
    counted_more (λ e. spelled_equation (equation_of e)) 0 c.args.equations.now c.loop-equation.equation-index c.equation-item.result
    c.loop-equation.count c.equation_len.result c.saturating_add-count.result c.loop-equation-test.true c.equation-item.is c.loop-equation.invariant
    c.equation_len.ensures c.saturating_add-count.ensures

pub returns : goal.returns
returns c = counted_all spelled_equation equation_of c.args.equations.now c.loop-equation.equation-index c.loop-equation.count (omega arith) c.loop-equation.invariant
