use Rattle.std.proofs.Common.{ap, sym, refl, ◌∙◌, ◌*◌, ◌%◌, ◌^◌}
use Rattle.aw_subs.specs.Entries.{asked_in}
use Rattle.aw_subs.proofs.EntryLemmas.{kept_written, writes_after, same_asked, bits_written, bit_beside, bit_alone}
use Rattle.aw_subs.proofs.subs.Subs.watch.Goals as goal

pub returns-in-Some-clause-asked : goal.returns-in-Some-clause-asked
returns-in-Some-clause-asked c =
    kept_written c.args.self.now.subs c.amend.new.subs c.args.r.now _ c.in-Some.ensures.written asked_in
    (ap asked_in (sym c.in-Some.ensures.was) ∙ same_asked c.in-Some.was (1 * 2 ^ c.args.role % 2 ^ 64))

pub returns-in_ok-add-in-None-clause-asked : goal.returns-in_ok-add-in-None-clause-asked
returns-in_ok-add-in-None-clause-asked c =
    kept_written c.args.self.now.subs c.add.new.subs c.args.r.now _
    (writes_after c.args.self.now.subs c.amend.new.subs c.add.new.subs c.args.r.now _ (c.in-None.ensures.kept refl) c.in_ok-add-in-None.ensures.ok)
    asked_in (ap asked_in (sym c.in-None.ensures.was))

pub returns-in-Some-clause-watchers : goal.returns-in-Some-clause-watchers
returns-in-Some-clause-watchers c = λ x i.
    bits_written c.args.self.now.subs c.amend.new.subs c.args.r.now _ c.in-Some.ensures.written c.args.role _ (sym c.in-Some.ensures.was)
    (λ j. bit_beside c.in-Some.was.watchers c.args.role j c.requires) x i

pub returns-in_ok-add-in-None-clause-watchers : goal.returns-in_ok-add-in-None-clause-watchers
returns-in_ok-add-in-None-clause-watchers c = λ x i.
    bits_written c.args.self.now.subs c.add.new.subs c.args.r.now _
    (writes_after c.args.self.now.subs c.amend.new.subs c.add.new.subs c.args.r.now _ (c.in-None.ensures.kept refl) c.in_ok-add-in-None.ensures.ok)
    c.args.role _ (sym c.in-None.ensures.was) (λ j. bit_alone c.args.role j c.requires) x i
