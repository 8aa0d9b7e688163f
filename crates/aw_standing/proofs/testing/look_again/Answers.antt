use Rattle.std.proofs.Common.{◌≡◌, ◌∙◌, ap, sym, subst, length, slice_get}
use Rattle.std.proofs.lemmas.Bool.{lt-ltb}
use Rattle.std.proofs.lemmas.Option.{slice_get_within}
use Rattle.aw_list.proofs.Everyday.{get_within as name_at}
use Rattle.aw_grammar.specs.GrammarOf.{grammar_of}
use Rattle.aw_store.specs.Chase.{chase}
use Rattle.aw_store.specs.ChaseView.{IsChasedTo}
use Rattle.aw_apply.proofs.GuardLemmas.{chased_missing as led_to}
use Rattle.aw_standing.specs.Due.{waiting_mark}
use Rattle.aw_standing.proofs.WaitEnds.{led_lacks, led_nowhere, led_told}
use Rattle.aw_standing.proofs.testing.look_again.Goals as goal

pub returns-in-Missing-clause-told : goal.returns-in-Missing-clause-told
returns-in-Missing-clause-told g c h rule here of ends =
    let k = g.F.Facts.map c.args.facts.now in
    let names = g.F.Facts.names c.args.facts.now in
    let (r, named) = name_at names c.args.slot c.requires.live in
    let (end, on, there) = led_to k names c.args.slot c.in-Missing.end (chase k r) (subst (IsChasedTo k names c.args.slot (chase k r)) c.in-Missing.is (c.chase.ensures r named)) in
    led_told (grammar_of c.args.grammar.now) k names h rule c.args.slot c.in-Missing.end r end named on there ends

pub returns-in-Missing-clause-lacks : goal.returns-in-Missing-clause-lacks
returns-in-Missing-clause-lacks g c slot is =
    let k = g.F.Facts.map c.args.facts.now in
    let names = g.F.Facts.names c.args.facts.now in
    let (r, named) = name_at names c.args.slot c.requires.live in
    let (end, on, there) = led_to k names c.args.slot c.in-Missing.end (chase k r) (subst (IsChasedTo k names c.args.slot (chase k r)) c.in-Missing.is (c.chase.ensures r named)) in
    let same : c.in-Missing.end ≡ slot = cc in
    led_lacks k names slot r end on (ap (slice_get names) (sym same) ∙ there)

pub returns-in-Missing-clause-live : goal.returns-in-Missing-clause-live
returns-in-Missing-clause-live g c =
    let k = g.F.Facts.map c.args.facts.now in
    let names = g.F.Facts.names c.args.facts.now in
    let (r, named) = name_at names c.args.slot c.requires.live in
    let (end, on, there) = led_to k names c.args.slot c.in-Missing.end (chase k r) (subst (IsChasedTo k names c.args.slot (chase k r)) c.in-Missing.is (c.chase.ensures r named)) in
    lt-ltb c.in-Missing.end (length names) (slice_get_within names c.in-Missing.end end there)

pub returns-in_default-clause-told : goal.returns-in_default-clause-told
returns-in_default-clause-told g c h rule here of ends = c.test_at.ensures.told h (waiting_mark rule c.args.slot) of here

pub returns-in_default-clause-leads_on : goal.returns-in_default-clause-leads_on
returns-in_default-clause-leads_on g c r end named on =
    let k = g.F.Facts.map c.args.facts.now in
    let names = g.F.Facts.names c.args.facts.now in
    absurd (led_nowhere k names c.args.slot c.chase.result end (λ at is. c.in_default.not-Missing at is) (subst (λ d. IsChasedTo k names c.args.slot d c.chase.result) on (c.chase.ensures r named)))
