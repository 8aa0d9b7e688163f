use Rattle.std.proofs.Common.{[], sym, subst}
use Rattle.std.specs.Prelude.{Option}
use Rattle.aw_print.specs.declared.stack.Span.{Span}
use Rattle.aw_print.specs.Drafts.{Whole}
use Rattle.aw_print.specs.Growing.{Underway, printing, made}
use Rattle.aw_print.specs.Stacks.{copied}
use Rattle.aw_print.proofs.GrowingLemmas.{starts}
use Rattle.aw_print.proofs.gather.copy_again.Goals as goal

pub returns-in-None : goal.returns-in-None
returns-in-None c =
    let p = printing c.args.text.now c.args.report.now in
    subst (λ (again : Option Span). Underway (λ n. Whole (copied (made p) again)) p p (λ n. Whole [])) (sym c.in-None.is) (starts (λ n. Whole []) p)
