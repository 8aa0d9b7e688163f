use Rattle.aw_print.proofs.row.print_or_forget.Goals as goal

pub returns-then-is_err-clause-ready : goal.returns-then-is_err-clause-ready
returns-then-is_err-clause-ready g c = c.new.ensures.ready c.args.g.now (g.F.Facts.map c.args.f.now) (g.F.Facts.names c.args.f.now) c.print_line-result.new.report
