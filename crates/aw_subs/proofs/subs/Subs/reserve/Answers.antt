use Rattle.std.proofs.Common.{◌≡◌, ◌∙◌, true}
use Rattle.aw_subs.specs.Entries.{is_ready}
use Rattle.aw_subs.proofs.EntryLemmas.{all_taken, all_of_take}
use Rattle.aw_subs.proofs.subs.Subs.reserve.Goals as goal

pub loop-r-preserved : goal.loop-r-preserved
loop-r-preserved c =
    let m = c.ready_one.new.self.subs in
    record {
      asked = λ x. c.in_ok-ready_one.ensures.asked x ∙ c.loop-r.invariant.asked x;
      watched = λ x. c.in_ok-ready_one.ensures.watchers x ∙ c.loop-r.invariant.watched x;
      kept = λ x h. c.in_ok-ready_one.ensures.kept x (c.loop-r.invariant.kept x h);
      ready = all_taken (λ x. is_ready m x ≡ true) c.args.refs.now c.loop-r.r-index c.r-item.result c.loop-r-test.true c.r-item.is
          (λ k d l. c.in_ok-ready_one.ensures.kept _ (c.loop-r.invariant.ready k d l)) c.in_ok-ready_one.ensures.ready;
    }

pub returns-clause-ready : goal.returns-clause-ready
returns-clause-ready c = all_of_take (λ x. is_ready c.loop-r.self.subs x ≡ true) c.args.refs.now c.loop-r.r-index c.loop-r-test.false c.loop-r.invariant.ready
