use Rattle.std.proofs.Common.{length, ap, sym, ◌∙◌}
use Rattle.aw_book_read.proofs.Counted.{no_head-no_events}
use Rattle.aw_book_read.proofs.checking.check.Goals as goal

pub returns-in_ok-checked-in-Headless-clause-checked : goal.returns-in_ok-checked-in-Headless-clause-checked
returns-in_ok-checked-in-Headless-clause-checked g c file told =
    let begun = rw c.in-Headless.is at c.in_ok-role.ensures.begins file told in
    c.in_ok-checked-in-Headless.ensures.checked file (c.in_ok-role.ensures.only.same_bytes ∙ told) begun.1 (sym (ap length (no_head-no_events file begun.0)))
