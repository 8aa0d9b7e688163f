use Rattle.std.proofs.Common.{length, map, ap, subst, sym, ◌∙◌}
use Rattle.aw_term.specs.Configs.{Done, fill, put, child_rows, env}
use Rattle.aw_term.specs.Views.{ground_of, term_of}
use Rattle.aw_grammar.specs.GrammarView.{rule_of}
use Rattle.aw_plain_rows.specs.TreeView.{values_of}
use Rattle.aw_plain_rows.specs.RowView.{config_of}
use Rattle.aw_plain.specs.Cases.{AreApart}
use Rattle.aw_plain_rows.specs.Rounds.{row_fed}
use Rattle.aw_plain.specs.Changes.{row_after, changed}
use Rattle.aw_plain.specs.Ordered.{IsOrdered}
use Rattle.aw_plain.proofs.ChangeLemmas.{developed}
use Rattle.aw_term.proofs.ByNodeLemmas.{ordered_mapped}
use Rattle.aw_plain.proofs.OrderedLemmas.{at_row, after_node}
use Rattle.aw_plain.proofs.develop.develop.Goals as goal

pub touched-places-requires-clause-apart : goal.touched-places-requires-clause-apart
touched-places-requires-clause-apart c = subst (λ rows. AreApart (config_of rows)) (sym c.as_slice-held.ensures.value) c.requires.apart

pub changes-requires-clause-outside : goal.changes-requires-clause-outside
changes-requires-clause-outside c = c.touched-places.ensures.outside (Done c.args.number (map ground_of c.args.args.now))

pub returns-clause-ok : goal.returns-clause-ok
returns-clause-ok c =
    let n = c.args.node.now in
    let r = c.args.number in
    let rule = rule_of c.args.grammar.now.sorts c.args.rule.now in
    let args = map ground_of c.args.args.now in
    let results = values_of c.in_ok-results.results in
    let held = c.as_slice-held.ensures.value in
    let given = c.as_slice-given.ensures in
    c.add_rows.ensures
    ∙ developed n r rule (values_of c.args.bound) args (config_of c.args.rows.now.items) (values_of c.in_ok-env.env.items) results
    (config_of c.in_ok-open.open.items) (config_of c.in_ok-children.children.items) (config_of c.apply.new.rows.items)
    (c.in_ok-env.ensures ∙ ap (λ gs. env n r rule (values_of c.args.bound) (map ground_of gs)) c.as_slice.ensures)
    (c.in_ok-results.ensures ∙ ap (λ es. map (fill (values_of c.as_slice-3.result.now)) (map term_of es)) c.as_slice-2.ensures
    ∙ ap (λ ts. map (fill (values_of ts)) rule.results) c.as_slice-3.ensures.value)
    (c.in_ok-open.ensures ∙ ap (λ ts. child_rows n r (values_of ts) 1 rule.children) c.as_slice-4.ensures.value)
    (c.in_ok-children.ensures ∙ ap (λ ts. map (row_fed n (values_of ts)) (config_of c.in_ok-open.open.items)) given)
    (ap config_of (c.apply.ensures.items ∙ ap (λ rows. changed rows c.in_ok-changed.changed.items) (c.reserve.ensures.items ∙ sym held))
    ∙ c.in_ok-changed.ensures
    ∙ ap (λ ts. map (row_after n (Done r args) (values_of ts)) (config_of c.as_slice-held.result.now)) given
    ∙ ap (λ rows. map (row_after n (Done r args) results) (config_of rows)) held)

pub add_rows-requires-clause-ordered : goal.add_rows-requires-clause-ordered
add_rows-requires-clause-ordered c =
    let n = c.args.node.now in
    let state = Done c.args.number (map ground_of c.args.args.now) in
    let results = values_of c.in_ok-results.results in
    let held = c.as_slice-held.ensures.value in
    let after = ap config_of (c.apply.ensures.items ∙ ap (λ rows. changed rows c.in_ok-changed.changed.items) (c.reserve.ensures.items ∙ sym held))
    ∙ c.in_ok-changed.ensures
    ∙ ap (λ ts. map (row_after n state (values_of ts)) (config_of c.as_slice-held.result.now)) c.as_slice-given.ensures
    ∙ ap (λ rows. map (row_after n state results) (config_of rows)) held in
    subst IsOrdered (sym after) (ordered_mapped at_row (row_after n state results) (after_node n state (length results) (put n results)) (config_of c.args.rows.now.items) c.requires.ordered)
