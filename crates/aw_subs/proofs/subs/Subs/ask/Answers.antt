use Rattle.std.proofs.Common.{ap, sym, refl, ◌∙◌, true}
use Rattle.aw_subs.specs.Entries.{watchers_in}
use Rattle.aw_subs.proofs.EntryLemmas.{kept_written, writes_after, same_watchers}
use Rattle.aw_subs.proofs.subs.Subs.ask.Goals as goal

pub returns-in-Some-clause-watchers : goal.returns-in-Some-clause-watchers
returns-in-Some-clause-watchers c =
    kept_written c.args.self.now.subs c.amend.new.subs c.args.r.now _ c.in-Some.ensures.written watchers_in
    (ap watchers_in (sym c.in-Some.ensures.was) ∙ same_watchers c.in-Some.was true)

pub returns-in_ok-add-in-None-clause-watchers : goal.returns-in_ok-add-in-None-clause-watchers
returns-in_ok-add-in-None-clause-watchers c =
    kept_written c.args.self.now.subs c.add.new.subs c.args.r.now _
    (writes_after c.args.self.now.subs c.amend.new.subs c.add.new.subs c.args.r.now _ (c.in-None.ensures.kept refl) c.in_ok-add-in-None.ensures.ok)
    watchers_in (ap watchers_in (sym c.in-None.ensures.was))
