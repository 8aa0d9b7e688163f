use Rattle.std.proofs.Common.{arith, ap, sym, ◌∙◌}
use Rattle.aw_msg.specs.Messages.{message}
use Rattle.aw_courier.proofs.BroughtLemmas.{brings-nothing, brings-addressed, brings-unknown, gave-unread}
use Rattle.aw_courier.proofs.replies.what_came.Goals as goal

pub returns-then-bytes-eq-NOTHING-clause-brings : goal.returns-then-bytes-eq-NOTHING-clause-brings
returns-then-bytes-eq-NOTHING-clause-brings c = λ g e. brings-nothing g c.args.bytes.now c.requires c.if-bytes-eq-NOTHING.true

pub returns-in-Ok-clause-brings : goal.returns-in-Ok-clause-brings
returns-in-Ok-clause-brings c = λ g e.
    brings-addressed g c.args.bytes.now c.args.roles c.in-Ok.m c.in-Ok.rest.now c.addressed.result c.requires (λ i. omega (arith, c.type_inv.bytes i)) c.if-bytes-eq-NOTHING.false
    (sym (ap message c.split_at.ensures.back) ∙ c.in-Ok.ensures) e c.addressed.ensures

pub returns-in-Err-Short-clause-brings : goal.returns-in-Err-Short-clause-brings
returns-in-Err-Short-clause-brings c = λ g e.
    brings-unknown g c.args.bytes.now c.requires c.if-bytes-eq-NOTHING.false (gave-unread g _ _ (sym (ap message c.split_at.ensures.back) ∙ rw c.in-Err-Short.field-0-is at c.in-Err-Short.ensures))

pub returns-in-Err-Bad-clause-brings : goal.returns-in-Err-Bad-clause-brings
returns-in-Err-Bad-clause-brings c = λ g e.
    brings-unknown g c.args.bytes.now c.requires c.if-bytes-eq-NOTHING.false (gave-unread g _ _ (sym (ap message c.split_at.ensures.back) ∙ rw c.in-Err-Bad.field-0-is at c.in-Err-Bad.ensures))
