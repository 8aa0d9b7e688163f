use Rattle.std.proofs.Common.{sym, subst, map, length, ◌≡◌, true}
use Rattle.aw_term.specs.Views.{pattern_of}
use Rattle.aw_apply.specs.Guard.{guard_all}
use Rattle.aw_apply.specs.GuardView.{guard_with}
use Rattle.aw_apply.proofs.TellLemmas.{guard_live, named_some}
use Rattle.aw_standing.specs.Records.{has_live}
use Rattle.aw_standing.specs.Tested.{LacksBody}
use Rattle.aw_standing.proofs.GuardWaits.{stands_lacks, stands_live}
use Rattle.aw_standing.proofs.testing.test_stands.Goals as goal

pub returns-clause-lacks : goal.returns-clause-lacks
returns-clause-lacks g c =
    let k = g.F.Facts.map c.args.facts.now in
    let names = g.F.Facts.names c.args.facts.now in
    let (rs, named) = named_some names c.args.slots.now c.requires.live in
    let bound = c.test_into-met.new.bound in
    subst (LacksBody k names) (sym (c.stands_by.ensures bound))
    (stands_lacks k names (map pattern_of c.args.rule.now.patterns) rs _ (guard_with bound c.test_into-met.result) (c.test_into-met.ensures.guard rs named))

pub returns-clause-live : goal.returns-clause-live
returns-clause-live g c =
    let k = g.F.Facts.map c.args.facts.now in
    let names = g.F.Facts.names c.args.facts.now in
    let (rs, named) = named_some names c.args.slots.now c.requires.live in
    let bound = c.test_into-met.new.bound in
    let w = guard_with bound c.test_into-met.result in
    subst (λ s. has_live (length names) s ≡ true) (sym (c.stands_by.ensures bound))
    (stands_live names _ w (guard_live names w (guard_all k 1 (map pattern_of c.args.rule.now.patterns) rs) (c.test_into-met.ensures.guard rs named)))
