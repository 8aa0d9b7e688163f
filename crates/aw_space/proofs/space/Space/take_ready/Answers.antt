use Rattle.std.proofs.Common.{[], ◌∙◌, ap, sym, subst, arith, map, All}
use Rattle.std.specs.Prelude.{sum_by}
use Rattle.std.proofs.lemmas.List.Elements.{All-weaker}
use Rattle.aw_term.specs.Names.{Ref}
use Rattle.aw_grammar.specs.GrammarOf.{grammar_of}
use Rattle.aw_store.specs.EquationView.{equation_of}
use Rattle.aw_store.proofs.NameLemmas.{all_named-grown}
use Rattle.aw_node_list.specs.InOrder.{IsInOrder, insert_all_in}
use Rattle.aw_node_list.specs.HeldView.{all_of}
use Rattle.aw_node_list.proofs.InOrderLemmas.{up_of, far}
use Rattle.aw_node_list.proofs.HeldViews.{ordered_done}
use Rattle.aw_law_sites.specs.Worklists.{site_worklist}
use Rattle.aw_standing.specs.Items.{waiting_on}
use Rattle.aw_standing.specs.KeptStates.{IsFitKept, IsKept, IsKeptBut}
use Rattle.aw_space.specs.Openings.{IsReady, held_in}
use Rattle.aw_space.specs.Sound.{all_inherited}
use Rattle.aw_space.specs.Waking.{IsKnown}
use Rattle.aw_space.proofs.Arriving.{rule_sound, rule_valid}
use Rattle.aw_space.proofs.Openings.{ready_grows, all_ready_named, all_tests_are}
use Rattle.aw_space.proofs.Waking.{closed_row, named_more, grown_by_all, all_known, sum_lefts, closed_bound}
use Rattle.aw_space.proofs.space.Space.take_ready.Goals as goal

pub add_all_ready-requires-clause-new : goal.add_all_ready-requires-clause-new
add_all_ready-requires-clause-new g c = c.requires.may.new

pub add_all_ready-requires-clause-few : goal.add_all_ready-requires-clause-few
add_all_ready-requires-clause-few g c = c.requires.may.few

pub add_all_ready-requires-clause-ready : goal.add_all_ready-requires-clause-ready
add_all_ready-requires-clause-ready g c = c.requires.all.sure

pub wake_all-requires-clause-known : goal.wake_all-requires-clause-known
wake_all-requires-clause-known g c =
    let l = g.F.Facts.map c.add_all_ready.new.f in
    subst (All (IsKnown l)) (sym (c.as_slice.ensures.value ∙ c.requires.all.told)) (all_known (g.F.Facts.map c.args.self.now.facts) l c.args.equations.items c.add_all_ready.ensures.map)

pub wake_all-requires-clause-fits : goal.wake_all-requires-clause-fits
wake_all-requires-clause-fits g c =
    let old = c.args.self.now in
    let gr = grammar_of old.accepted.now.grammar in
    let k = g.F.Facts.map old.facts in
    let names = g.F.Facts.names old.facts in
    let row = c.mark_done.new.self in
    let closed = closed_row gr old.held row k names c.close.new.self c.args.at c.args.taking.copies.done c.mark_done.ensures.items c.mark_done.ensures.numbers
    (c.close.ensures.kept gr old.held c.args.at c.args.taking.copies.done k names [] c.number_at-number.ensures old.stands) in
    subst (λ x. IsFitKept (grammar_of x) (g.F.Facts.names c.add_all_ready.new.f) c.close.new.self) (sym c.grammar-grammar.ensures.value)
    (row.numbers, (named_more gr row k names _ c.close.new.self c.add_all_ready.ensures.names closed).fits)

pub put_all_open-requires-clause-ordered : goal.put_all_open-requires-clause-ordered
put_all_open-requires-clause-ordered g c =
    let hs = c.args.self.now.held.items in
    subst IsInOrder (sym c.mark_done.ensures.items) (far _ (ordered_done c.args.taking.copies.done hs c.args.at (up_of hs c.args.self.now.sound.ordered)))

pub put_all_open-requires-clause-ready : goal.put_all_open-requires-clause-ready
put_all_open-requires-clause-ready g c =
    let gr = grammar_of c.args.self.now.accepted.now.grammar in
    let names = g.F.Facts.names c.args.self.now.facts in
    let more = g.F.Facts.names c.add_all_ready.new.f in
    subst (λ x. All (IsReady (grammar_of x) more) c.args.taking.own.items) (sym c.grammar-grammar.ensures.value)
    (All-weaker (IsReady gr names) (IsReady gr more) (ready_grows gr names more c.add_all_ready.ensures.names) c.args.taking.own.items c.requires.all.ready.ready)

pub put_all_open-requires-clause-stands : goal.put_all_open-requires-clause-stands
put_all_open-requires-clause-stands g c =
    let old = c.args.self.now in
    let gr = grammar_of old.accepted.now.grammar in
    let k = g.F.Facts.map old.facts in
    let l = g.F.Facts.map c.add_all_ready.new.f in
    let names = g.F.Facts.names old.facts in
    let more = g.F.Facts.names c.add_all_ready.new.f in
    let row = c.mark_done.new.self in
    let closed = closed_row gr old.held row k names c.close.new.self c.args.at c.args.taking.copies.done c.mark_done.ensures.items c.mark_done.ensures.numbers
    (c.close.ensures.kept gr old.held c.args.at c.args.taking.copies.done k names [] c.number_at-number.ensures old.stands) in
    c.wake_all.ensures.kept row
    (subst (λ x. IsKeptBut (grammar_of x) row l more c.as_slice.result.now c.close.new.self) (sym c.grammar-grammar.ensures.value)
    (subst (λ late. IsKeptBut gr row l more late c.close.new.self) (sym (c.as_slice.ensures.value ∙ c.requires.all.told))
    (grown_by_all gr row k l more c.args.equations.items c.close.new.self c.add_all_ready.ensures.map (named_more gr row k names more c.close.new.self c.add_all_ready.ensures.names closed))))

pub put_all_open-requires-clause-room : goal.put_all_open-requires-clause-room
put_all_open-requires-clause-room g c = c.wake_all.ensures.room _ _ (c.close.ensures.room _ _ c.requires.all.ready.room)

pub invariant_of-self : goal.invariant_of-self
invariant_of-self g c =
    let old = c.args.self.now in
    let gr = grammar_of old.accepted.now.grammar in
    let hs = old.held.items in
    let ks = c.put_all_open.new.held.items in
    let names = g.F.Facts.names old.facts in
    let more = g.F.Facts.names c.add_all_ready.new.f in
    let l = g.F.Facts.map c.add_all_ready.new.f in
    let grows = c.add_all_ready.ensures.names in
    let done = c.args.taking.copies.done in
    let es = map equation_of c.args.equations.items in
    let os = c.args.taking.own.items in
    let own = map held_in os in
    let held = c.put_all_open.ensures.items ∙ ap (insert_all_in own) c.mark_done.ensures.items in
    let named = all_named-grown names more (all_inherited own) grows (all_ready_named gr names os c.requires.all.ready.ready) in
    let ordered = c.put_all_open.ensures.ordered in
    record {
      sound = rule_sound gr old.role hs ks _ l names more ordered grows old.sound c.args.at done es own c.requires.may held c.add_all_ready.ensures.map named;
      valid = rule_valid gr old.role hs ks _ l names more ordered grows old.sound c.args.at done es own c.requires.may held c.add_all_ready.ensures.map;
      stands = subst (λ x. IsKept (grammar_of x) c.put_all_open.new.held l more c.put_all_open.new.kept) c.grammar-grammar.ensures.value c.put_all_open.ensures.stands;
    }

pub returns-clause-held : goal.returns-clause-held
returns-clause-held g c = c.put_all_open.ensures.items ∙ ap (insert_all_in (map held_in c.args.taking.own.items)) c.mark_done.ensures.items

pub returns-clause-steps : goal.returns-clause-steps
returns-clause-steps g c =
    let old = c.args.self.now in
    let gr = grammar_of old.accepted.now.grammar in
    let hs = old.held.items in
    let k = g.F.Facts.map old.facts in
    let l = g.F.Facts.map c.add_all_ready.new.f in
    let names = g.F.Facts.names old.facts in
    let more = g.F.Facts.names c.add_all_ready.new.f in
    let most = λ (r : Ref). waiting_on r (site_worklist gr k (all_of gr hs)) in
    let bound = closed_bound gr old.held k l more old.kept c.close.new.self (g.met.F.Facts.once c.add_all_ready.new.f) c.close.ensures.fewer
    (named_more gr old.held k names more old.kept c.add_all_ready.ensures.names old.stands) in
    omega (
      arith,
      c.put_all_open.ensures.steps,
      all_tests_are gr names c.args.taking.own.items c.requires.all.ready.ready,
      c.wake_all.ensures.steps most bound,
      ap (sum_by most) (c.as_slice.ensures.value ∙ c.requires.all.told),
      sum_lefts most c.args.equations.items,
    )
