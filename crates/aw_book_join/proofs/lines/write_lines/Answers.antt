use Rattle.std.proofs.Common.{◌≡◌, ℕ, List, ◌++◌, Err, sym, ap, subst, rules}
use Rattle.std.specs.Prelude.{IfErr, Result}
use Rattle.std.specs.List.{concat}
use Rattle.aw_out.specs.Edge.{Gets, GetsPrefix}
use Rattle.aw_out.specs.Report.{Bounded}
use Rattle.aw_book_join.specs.declared.fault.TasksFault.{TasksFault}
use Rattle.aw_book_join.specs.declared.fault.TasksFault.TheVariants.{WriteFault}
use Rattle.aw_book_join.specs.Handing.{HandsOn}
use Rattle.aw_book_join.specs.Lines.{TellsTask}
use Rattle.aw_book_join.proofs.Handing.{ends-with, ends-within}
use Rattle.aw_book_join.proofs.Results.{writes-err}
use Rattle.aw_book_join.proofs.lines.write_lines.Goals as goal

pub returns-in_err-write_all-clause-writes : goal.returns-in_err-write_all-clause-writes
returns-in_err-write_all-clause-writes g c =
    let a = g.K.Sink.written c.args.out.now in
    let b = g.K.Sink.written c.print_each.new.out in
    let z = g.K.Sink.written c.write_all.new.out in
    let left = c.print_each.new.lines.report.text in
    let is : c.from_residual-in_err-write_all.result ≡ Err WriteFault = search rules in
    record {
      text = λ texts p.
          let none = ap (λ (x : Bounded). x.text) c.new-lines.ensures.report in
          let handed = subst (λ (t : List ℕ). HandsOn a b left (t ++ concat texts)) none (c.in_ok-print_each.ensures.hands.text texts p) in
          let part = subst (λ (t : List ℕ). GetsPrefix b z t) c.bytes.ensures.text c.in_err-write_all.ensures.prefix in
          writes-err a z (concat texts) c.from_residual-in_err-write_all.result WriteFault is (ends-within a b z left (concat texts) handed part);
      long = subst (λ (x : Result Unit TasksFault). IfErr x (TellsTask c.args.accepted.now.grammar c.args.view.now (g.W.Workspace.seen c.args.site.now))) (sym is) tt;
    }

pub returns-clause-writes : goal.returns-clause-writes
returns-clause-writes g c =
    let a = g.K.Sink.written c.args.out.now in
    let b = g.K.Sink.written c.print_each.new.out in
    let z = g.K.Sink.written c.write_all.new.out in
    let left = c.print_each.new.lines.report.text in
    record {
      text = λ texts p.
          let none = ap (λ (x : Bounded). x.text) c.new-lines.ensures.report in
          let handed = subst (λ (t : List ℕ). HandsOn a b left (t ++ concat texts)) none (c.in_ok-print_each.ensures.hands.text texts p) in
          let all = subst (λ (t : List ℕ). Gets b z t) c.bytes.ensures.text c.in_ok-write_all.ensures.all in
          ends-with a b z left (concat texts) handed all;
      long = tt;
    }
