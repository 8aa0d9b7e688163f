use Rattle.std.proofs.Common.{◌≡◌, ◌∙◌, sym, subst, map, List, Some, refl, length}
use Rattle.std.proofs.lemmas.Option.{same_Some}
use Rattle.std.proofs.lemmas.Result.{IfOk-weaker}
use Rattle.aw_term.specs.Views.{ground_of}
use Rattle.aw_term.specs.Held as P
use Rattle.aw_grammar.specs.GrammarOf.{grammar_of}
use Rattle.aw_grammar.specs.GrammarView.{rule_of}
use Rattle.aw_grammar.specs.declared.rule.Rule.{Rule}
use Rattle.aw_grammar.specs.declared.rule.Sort.{Sort}
use Rattle.aw_grammar.proofs.RuleSizes.{patterns_few, patterns_shallow}
use Rattle.aw_apply.specs.Telling.{weighed_of, HasRoom}
use Rattle.aw_apply.specs.declared.telling.Weighed.{Weighed}
use Rattle.aw_node_list.specs.HeldView.{held_of}
use Rattle.aw_law_sites.specs.Joint.{by_rule, by_held}
use Rattle.aw_standing.specs.Items.{RuleStands}
use Rattle.aw_space.specs.Weighing.{Weighs, HasRoomFor, IsRefused}
use Rattle.aw_space.proofs.Weighed.{stands_there}
use Rattle.aw_space.proofs.Standing.{patterns_room, found_rule, none_noted, same_many, sort_here, weighs_open, weighs_done}
use Rattle.aw_space.proofs.weighing.weigh_at.Goals as goal

pub weigh_rule-requires-clause-same : goal.weigh_rule-requires-clause-same
weigh_rule-requires-clause-same g c = λ e.
    let here = found_rule c.args.grammar.now.rules c.args.number c.rule.result c.in-Some.rule c.rule.ensures.value c.in-Some.is in
    same_many c.args.grammar.now c.args.number c.in-Some.rule.now c.args.at.held.now.node c.args.at.held.now.inherited here c.requires.takes (e ∙ c.sort_at-sort.ensures)

pub weigh_rule-requires-clause-few : goal.weigh_rule-requires-clause-few
weigh_rule-requires-clause-few g c = patterns_few c.args.grammar.now c.args.number _ (found_rule c.args.grammar.now.rules c.args.number c.rule.result c.in-Some.rule c.rule.ensures.value c.in-Some.is)

pub weigh_rule-requires-clause-shallow : goal.weigh_rule-requires-clause-shallow
weigh_rule-requires-clause-shallow g c =
    patterns_shallow c.args.grammar.now c.args.number _ (found_rule c.args.grammar.now.rules c.args.number c.rule.result c.in-Some.rule c.rule.ensures.value c.in-Some.is)

pub weigh_rule-requires-clause-room : goal.weigh_rule-requires-clause-room
weigh_rule-requires-clause-room g c = patterns_room c.args.grammar.now c.args.number _
    (found_rule c.args.grammar.now.rules c.args.number c.rule.result c.in-Some.rule c.rule.ensures.value c.in-Some.is)

pub returns-clause-value : goal.returns-clause-value
returns-clause-value g c =
    let gr = c.args.grammar.now in
    let held = c.args.at.held.now in
    let k = g.F.Facts.map c.args.facts.now in
    let args = map ground_of c.args.args.now in
    let rule = c.in-Some.rule.now in
    let here = found_rule gr.rules c.args.number c.rule.result c.in-Some.rule c.rule.ensures.value c.in-Some.is in
    let idle = none_noted held.done (sym c.is_some.ensures ∙ c.if-is_some.false) in
    let sort = sort_here (grammar_of gr) held.node held.inherited c.requires.takes ∙ sym c.sort_at-sort.ensures in
    IfOk-weaker c.weigh_rule.result
    (λ (w : Weighed). (sorts : List Sort) (h : P.Held) → h.sort ≡ c.sort_at-sort.result → h.inherited ≡ held.inherited →
    (rule.sort ≡ c.sort_at-sort.result → RuleStands k held.node held.inherited (rule_of sorts rule) c.args.at.stands) →
    weighed_of (rule_of sorts rule) w ≡ by_rule (Some (rule_of sorts rule)) k held.node args h)
    (λ (w : Weighed). Weighs (grammar_of gr) c.args.number w (by_held (Some (held_of (grammar_of gr) held)) (grammar_of gr) k held.node c.args.number (map ground_of c.args.args.now)))
    (λ w h.
    weighs_open gr c.args.number rule k args held w here idle
    (h gr.sorts (held_of (grammar_of gr) held) sort refl (stands_there gr k held c.args.number rule c.sort_at-sort.result c.args.at.stands c.requires.stands here sort idle)))
    c.weigh_rule.ensures.value

pub returns-then-is_some-clause-value : goal.returns-then-is_some-clause-value
returns-then-is_some-clause-value g c =
    weighs_done (grammar_of c.args.grammar.now) c.args.number (g.F.Facts.map c.args.facts.now) (map ground_of c.args.args.now) c.args.at.held.now c.args.at.held.now.done refl
    (sym c.is_some.ensures ∙ c.if-is_some.true)

pub returns-clause-room : goal.returns-clause-room
returns-clause-room g c =
    let gr = c.args.grammar.now in
    let here = found_rule gr.rules c.args.number c.rule.result c.in-Some.rule c.rule.ensures.value c.in-Some.is in
    IfOk-weaker c.weigh_rule.result (HasRoom (length c.in-Some.rule.now.children) c.args.at.held.now.node) (HasRoomFor gr c.args.number c.args.at.held.now.node)
    (λ w h rule e. subst (λ (r : Rule). HasRoom (length r.children) c.args.at.held.now.node w) (same_Some _ _ (sym here ∙ e)) h) c.weigh_rule.ensures.room

pub returns-clause-untested : goal.returns-clause-untested
returns-clause-untested g c =
    let gr = c.args.grammar.now in
    let held = c.args.at.held.now in
    let k = g.F.Facts.map c.args.facts.now in
    let rule = c.in-Some.rule.now in
    let here = found_rule gr.rules c.args.number c.rule.result c.in-Some.rule c.rule.ensures.value c.in-Some.is in
    let idle = none_noted held.done (sym c.is_some.ensures ∙ c.if-is_some.false) in
    let sort = sort_here (grammar_of gr) held.node held.inherited c.requires.takes ∙ sym c.sort_at-sort.ensures in
    IfOk-weaker c.weigh_rule.result
    (λ (w : Weighed). (sorts : List Sort) → (rule.sort ≡ c.sort_at-sort.result → RuleStands k held.node held.inherited (rule_of sorts rule) c.args.at.stands) → IsRefused w →
    c.weigh_rule.new.steps ≡ c.args.steps.now)
    (λ (w : Weighed). IsRefused w → c.weigh_rule.new.steps ≡ c.args.steps.now)
    (λ w h. h gr.sorts (stands_there gr k held c.args.number rule c.sort_at-sort.result c.args.at.stands c.requires.stands here sort idle))
    c.weigh_rule.ensures.untested
