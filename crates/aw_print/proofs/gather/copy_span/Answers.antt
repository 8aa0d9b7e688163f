use Rattle.std.proofs.Common.{◌≡◌, ◌++◌, length, ap, subst, arith}
use Rattle.std.specs.Prelude.{slice_range}
use Rattle.aw_out.specs.Report.{Bounded, Prints}
use Rattle.aw_out.proofs.Printing.{Prints-second}
use Rattle.aw_print.specs.Growing.{printing, made}
use Rattle.aw_print.proofs.CopyLemmas.{copy_past, flush_prints, range_long}
use Rattle.aw_print.proofs.gather.copy_span.Goals as goal

pub returns-then-limit-bytes-clause-prints : goal.returns-then-limit-bytes-clause-prints
returns-then-limit-bytes-clause-prints c =
    let bytes = made (printing c.args.text.now c.args.report.now) in
    let from = c.args.span.now.from in
    let until = c.args.span.now.until in
    copy_past c.args.text.now (slice_range bytes from until) c.args.report.now c.flush.new.report c.in_ok-flush.ensures.ok
    (omega (arith, range_long bytes from until c.requires.order c.requires.within, c.if-limit-bytes.true, c.limit.ensures, ap length c.bytes.ensures.text))

pub returns-clause-prints : goal.returns-clause-prints
returns-clause-prints c =
    let from = c.args.span.now.from in
    let until = c.args.span.now.until in
    let same : c.flush.new.report.text ≡ made (printing c.args.text.now c.args.report.now) = ap (λ (r : Bounded). r.text) c.in_ok-flush.ensures.ok in
    subst (λ t. Prints (c.args.text.now ++ slice_range t from until) c.args.report.now c.copy_all.new.report c.copy_all.result) same
    (Prints-second c.args.text.now (slice_range c.flush.new.report.text from until) c.args.report.now c.flush.new.report c.copy_all.new.report
    c.copy_all.result (flush_prints c.args.text.now c.args.report.now c.flush.new.report c.in_ok-flush.ensures.ok) c.copy_all.ensures.prints)
