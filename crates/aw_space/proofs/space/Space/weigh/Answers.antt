use Rattle.std.proofs.Common.{◌≡◌, ◌∙◌, sym, ap, subst, map, true, Some}
use Rattle.std.specs.Prelude.{is_some, slice_get}
use Rattle.std.proofs.lemmas.Result.{IfOk-weaker}
use Rattle.aw_term.specs.Choices.{Develop}
use Rattle.aw_term.specs.Rules.{sort_of}
use Rattle.aw_term.specs.Views.{ground_of}
use Rattle.aw_grammar.specs.GrammarOf.{grammar_of}
use Rattle.aw_grammar.specs.declared.grammar.Grammar.{Grammar}
use Rattle.aw_apply.specs.declared.telling.Weighed.{Weighed}
use Rattle.aw_node_list.specs.HeldView.{held_of, all_of}
use Rattle.aw_node_list.proofs.HeldViews.{held_nowhere}
use Rattle.aw_law_sites.specs.Joint.{by_held, outcome_in}
use Rattle.aw_law_sites.specs.ValidNames.{takes_as}
use Rattle.aw_standing.specs.Items.{StandsAt}
use Rattle.aw_standing.specs.KeptStates.{IsNumbered}
use Rattle.aw_space.specs.Weighing.{Weighs, HasRoomFor}
use Rattle.aw_space.proofs.Standing.{node_here, takes_here, weighs_here}
use Rattle.aw_space.proofs.space.Space.weigh.Goals as goal

pub weigh_at-requires-clause-takes : goal.weigh_at-requires-clause-takes
weigh_at-requires-clause-takes g c =
    let old = c.args.self.now in
    let h = c.at.result.now in
    subst (λ x. takes_as (grammar_of x) (sort_of (grammar_of x) h.node) h.inherited ≡ true) (sym c.grammar.ensures.value)
    (takes_here (grammar_of old.accepted.now.grammar) old.role old.held.items c.in-Some.place h old.sound.own c.at.ensures)

pub weigh_at-requires-clause-declared : goal.weigh_at-requires-clause-declared
weigh_at-requires-clause-declared g c = subst (λ (x : Grammar). is_some (slice_get x.rules c.args.rule) ≡ true) (sym c.grammar.ensures.value) c.requires.declared

pub weigh_at-requires-clause-named : goal.weigh_at-requires-clause-named
weigh_at-requires-clause-named g c =
    let old = c.args.self.now in
    let here : IsNumbered old.held c.number_at-number.result c.at.result.now = record { place = c.in-Some.place; numbered = c.number_at-number.ensures; there = c.at.ensures } in
    c.slots.ensures (grammar_of old.accepted.now.grammar) old.held c.at.result.now (g.F.Facts.map old.facts) (g.F.Facts.names old.facts) here old.stands

pub weigh_at-requires-clause-stands : goal.weigh_at-requires-clause-stands
weigh_at-requires-clause-stands g c =
    let old = c.args.self.now in
    let h = c.at.result.now in
    let here : IsNumbered old.held c.number_at-number.result h = record { place = c.in-Some.place; numbered = c.number_at-number.ensures; there = c.at.ensures } in
    subst (λ x. StandsAt (grammar_of x) (g.F.Facts.map old.facts) h c.args.rule c.in_ok-stands-in-Some.stands) (sym c.grammar.ensures.value)
    (c.in_ok-stands-in-Some.ensures (grammar_of old.accepted.now.grammar) old.held h here old.stands)

pub returns-in_ok-stands-in-Some-clause-value : goal.returns-in_ok-stands-in-Some-clause-value
returns-in_ok-stands-in-Some-clause-value g c =
    let old = c.args.self.now in
    let hs = old.held.items in
    let gr = grammar_of old.accepted.now.grammar in
    let r = c.grammar.result.now in
    let k = g.F.Facts.map old.facts in
    let args = map ground_of c.args.args.now in
    let h = c.at.result.now in
    IfOk-weaker c.weigh_at.result
    (λ (w : Weighed). Weighs (grammar_of r) c.args.rule w (by_held (Some (held_of (grammar_of r) h)) (grammar_of r) k h.node c.args.rule args))
    (λ (w : Weighed). Weighs gr c.args.rule w (outcome_in (all_of gr hs) k gr (Develop c.args.node.now c.args.rule args)))
    (λ w weighs. weighs_here gr hs c.args.node.now c.in-Some.place h k c.args.rule args w (sym c.requires.found ∙ c.in-Some.is) c.at.ensures
    (subst (λ x. Weighs (grammar_of x) c.args.rule w (by_held (Some (held_of (grammar_of x) h)) (grammar_of x) k h.node c.args.rule args)) c.grammar.ensures.value weighs))
    c.weigh_at.ensures.value

pub returns-in-None-clause-value : goal.returns-in-None-clause-value
returns-in-None-clause-value g c = λ rule here.
    let old = c.args.self.now in
    let gr = grammar_of old.accepted.now.grammar in
    ap (λ o. by_held o gr (g.F.Facts.map old.facts) c.args.node.now c.args.rule (map ground_of c.args.args.now))
    (sym (held_nowhere gr c.args.node.now old.held.items (sym c.requires.found ∙ c.in-None.is)))

pub returns-in_ok-stands-in-Some-clause-room : goal.returns-in_ok-stands-in-Some-clause-room
returns-in_ok-stands-in-Some-clause-room g c =
    let old = c.args.self.now in
    let gr = old.accepted.now.grammar in
    let h = c.at.result.now in
    let node = node_here (grammar_of gr) c.args.node.now old.held.items c.in-Some.place h (sym c.requires.found ∙ c.in-Some.is) c.at.ensures in
    IfOk-weaker c.weigh_at.result (HasRoomFor c.grammar.result.now c.args.rule h.node) (HasRoomFor gr c.args.rule c.args.node.now)
    (λ w room. subst (λ n. HasRoomFor gr c.args.rule n w) node (subst (λ x. HasRoomFor x c.args.rule h.node w) c.grammar.ensures.value room)) c.weigh_at.ensures.room
