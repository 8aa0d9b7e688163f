use Rattle.std.proofs.Common.{subst}
use Rattle.aw_session.proofs.Refusals.{err-passed}
use Rattle.aw_courier.specs.Replies.{Brings}
use Rattle.aw_courier.proofs.PullLemmas.{pulled-letter, pulled-nothing, pulled-unknown, pulled-unseen}
use Rattle.aw_courier.proofs.turns.pull.Goals as goal

pub returns-in_err-bytes-clause-err : goal.returns-in_err-bytes-clause-err
returns-in_err-bytes-clause-err g c p e = err-passed _ _ _ c.from_residual.ensures.1 (rw c.pull_frame.ensures at (c.in_err-bytes.ensures.err p))

pub returns-in_err-to-clause-err : goal.returns-in_err-to-clause-err
returns-in_err-to-clause-err g c p e = err-passed _ _ _ c.from_residual-in_err-to.ensures.1 (pulled-unseen p c.args.place _ _ c.pull_frame.result
    c.in_ok-bytes.bytes c.pull_frame.ensures c.in_ok-bytes.ensures.ok)

pub returns-in-Message-clause-ok : goal.returns-in-Message-clause-ok
returns-in-Message-clause-ok g c p e =
    pulled-letter p c.args.place _ c.pull_frame.result c.in_ok-bytes.bytes _ _ c.pull_frame.ensures c.in_ok-bytes.ensures.ok
    (subst (λ b. Brings p c.in_ok-bytes.bytes b) c.in-Message.is (rw c.as_slice.ensures at (c.in_ok-to.ensures.brings p e))) c.as_push.ensures

pub returns-in-Nothing-clause-ok : goal.returns-in-Nothing-clause-ok
returns-in-Nothing-clause-ok g c p e =
    pulled-nothing p c.args.place _ c.pull_frame.result c.in_ok-bytes.bytes c.pull_frame.ensures c.in_ok-bytes.ensures.ok
    (subst (λ b. Brings p c.in_ok-bytes.bytes b) c.in-Nothing.is (rw c.as_slice.ensures at (c.in_ok-to.ensures.brings p e)))

pub returns-in-Unknown-clause-err : goal.returns-in-Unknown-clause-err
returns-in-Unknown-clause-err g c p e =
    pulled-unknown p c.args.place _ _ c.pull_frame.result c.in_ok-bytes.bytes c.pull_frame.ensures c.in_ok-bytes.ensures.ok
    (subst (λ b. Brings p c.in_ok-bytes.bytes b) c.in-Unknown.is (rw c.as_slice.ensures at (c.in_ok-to.ensures.brings p e)))
