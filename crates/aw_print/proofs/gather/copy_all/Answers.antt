use Rattle.std.proofs.Common.{Err, ap, arith, rules}
use Rattle.aw_print.proofs.CopyLemmas.{copy_step, copy_stops}
use Rattle.aw_print.proofs.gather.copy_all.Goals as goal

pub returns-in_err-at-clause-prints : goal.returns-in_err-at-clause-prints
returns-in_err-at-clause-prints c =
    copy_stops c.args.report.now c.loop-at.report c.copy_some.new.report c.args.from c.loop-at.at c.args.until c.in_err-at.field-0.0
    c.from_residual.result c.loop-at.invariant.from c.loop-at.invariant.until c.requires.within c.loop-at.invariant.copied c.in_err-at.ensures.err
    (λ e. c.in_err-at.ensures.too_large (ap Err e)) (search rules)

pub loop-at-preserved : goal.loop-at-preserved
loop-at-preserved c = record {
  none = c.in_ok-at.ensures.none;
  from = omega (arith, c.loop-at.invariant.from, c.in_ok-at.ensures.end.0);
  until = c.in_ok-at.ensures.end.1;
  copied =
      copy_step c.args.report.now c.loop-at.report c.copy_some.new.report c.args.from c.loop-at.at c.in_ok-at.at c.loop-at.invariant.from
      (omega (arith, c.in_ok-at.ensures.end.0)) (omega (arith, c.in_ok-at.ensures.end.1, c.requires.within)) c.loop-at.invariant.copied
      c.in_ok-at.ensures.ok;
}
