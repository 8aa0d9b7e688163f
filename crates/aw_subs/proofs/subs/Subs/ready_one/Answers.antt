use Rattle.std.proofs.Common.{ap}
use Rattle.aw_list.proofs.Everyday.{on_ok}
use Rattle.aw_subs.specs.Entries.{asked_in, watchers_in, entry_of}
use Rattle.aw_subs.proofs.EntryLemmas.{kept_written, ready_self, either_way, or_asked, or_watchers}
use Rattle.aw_subs.proofs.subs.Subs.ready_one.Goals as goal

pub returns-clause-asked : goal.returns-clause-asked
returns-clause-asked c = either_way c.admit.result c.admit.ensures.ok c.admit.ensures.err
    (λ w. kept_written c.args.self.now.subs c.admit.new.subs c.args.r.now _ w asked_in (or_asked (entry_of c.args.self.now.subs c.args.r.now))) (λ k x. ap asked_in (k x))

pub returns-clause-watchers : goal.returns-clause-watchers
returns-clause-watchers c = either_way c.admit.result c.admit.ensures.ok c.admit.ensures.err
    (λ w. kept_written c.args.self.now.subs c.admit.new.subs c.args.r.now _ w watchers_in (or_watchers (entry_of c.args.self.now.subs c.args.r.now))) (λ k x. ap watchers_in (k x))

pub returns-clause-ready : goal.returns-clause-ready
returns-clause-ready c = on_ok c.admit.result c.admit.ensures.ok (λ w. ready_self c.args.self.now.subs c.admit.new.subs c.args.r.now _ w)
