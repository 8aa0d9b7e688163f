use Rattle.std.proofs.Common.{◌≡◌, Option, true, false, refl, sym, ◌∙◌, subst, rules}
use Rattle.aw_journal.specs.declared.payload.NodeEvent.{NodeEvent}
use Rattle.aw_book_drive.specs.Sources.{Gives}
use Rattle.aw_book_drive.proofs.PassedOver.{passes-over, selects, ends-selected}
use Rattle.aw_book_drive.proofs.selecting.next_selected.Goals as goal

pub loop-number-init : goal.loop-number-init
loop-number-init g c = record { back = λ events given. given; kept = refl }

pub loop-number-preserved : goal.loop-number-preserved
loop-number-preserved g c =
    let i = c.loop-number.invariant in
    let gives = g.S.EventSource.gives in
    let miss : c.is_selected.result ≡ false = search rules in
    let given = subst (λ (o : Option NodeEvent). Gives gives c.loop-number.source c.next.new.self o) c.in-Some.is c.in_ok-event.ensures.given in
    record {
      back = passes-over gives c.args.case.now c.args.source.now c.loop-number.source c.next.new.self c.in-Some.event i.back (sym c.is_selected.ensures ∙ miss) given;
      kept = c.in_ok-event.ensures.counts ∙ i.kept;
    }

pub returns-in_default-clause-given : goal.returns-in_default-clause-given
returns-in_default-clause-given g c =
    let i = c.loop-number.invariant in
    let gives = g.S.EventSource.gives in
    ends-selected gives c.args.case.now c.args.source.now c.loop-number.source c.next.new.self i.back
    (subst (λ (o : Option NodeEvent). Gives gives c.loop-number.source c.next.new.self o) c.in_default.is c.in_ok-event.ensures.given)

pub returns-then-is_selected-clause-given : goal.returns-then-is_selected-clause-given
returns-then-is_selected-clause-given g c =
    let i = c.loop-number.invariant in
    let gives = g.S.EventSource.gives in
    let hit : c.is_selected.result ≡ true = search rules in
    selects gives c.args.case.now c.args.source.now c.loop-number.source c.next.new.self c.in-Some.event i.back (sym c.is_selected.ensures ∙ hit)
    (subst (λ (o : Option NodeEvent). Gives gives c.loop-number.source c.next.new.self o) c.in-Some.is c.in_ok-event.ensures.given)
