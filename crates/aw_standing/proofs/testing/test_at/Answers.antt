use Rattle.std.proofs.Common.{◌∙◌, slice_get, length, map, ap, sym, subst, refl, arith}
use Rattle.std.proofs.lemmas.Option.{slice_get_read}
use Rattle.aw_term.specs.Views.{pattern_of}
use Rattle.aw_term.specs.WellFormed.{takes_of}
use Rattle.aw_term.proofs.Joined.{leaves_join}
use Rattle.aw_grammar.specs.GrammarOf.{grammar_of}
use Rattle.aw_grammar.proofs.RuleSizes.{patterns_shallow, patterns_few, patterns_taken, leaves_few}
use Rattle.aw_store.specs.NamedRefs.{AreNamed}
use Rattle.aw_standing.specs.Standings.{told_refusal}
use Rattle.aw_standing.proofs.MarkLemmas.{found_rule, no_rule, mark_sort, no_mark, one_mark, rule_back}
use Rattle.aw_standing.proofs.testing.test_at.Goals as goal

pub unreachable-requires : goal.unreachable-requires
unreachable-requires g c =
    let gr = c.args.grammar.now in
    let ms = c.args.entry.now.marks.items in
    let m = c.index-mark.result.now in
    let here = slice_get_read ms (length ms) c.args.at m refl c.requires.within c.index-mark.ensures in
    no_mark gr c.args.entry.now.sort m.rule (no_rule gr.rules m.rule c.rule.result c.rule.ensures.value c.in_default.is) (c.requires.fit.rules c.args.at m here)

pub test_stands-requires-clause-same : goal.test_stands-requires-clause-same
test_stands-requires-clause-same g c =
    let gr = c.args.grammar.now in
    let ms = c.args.entry.now.marks.items in
    let m = c.index-mark.result.now in
    let here = slice_get_read ms (length ms) c.args.at m refl c.requires.within c.index-mark.ensures in
    let found = found_rule gr.rules m.rule c.rule.result c.in-Some.rule c.rule.ensures.value c.in-Some.is in
    patterns_taken gr m.rule _ found
    ∙ ap (λ s. takes_of (slice_get (grammar_of gr).sorts s)) (mark_sort gr c.args.entry.now.sort m.rule c.in-Some.rule.now found (c.requires.fit.rules c.args.at m here))
    ∙ sym c.requires.fit.takes
    ∙ ap length (sym c.as_slice.ensures.value)

pub test_stands-requires-clause-few : goal.test_stands-requires-clause-few
test_stands-requires-clause-few g c =
    let gr = c.args.grammar.now in
    let m = c.index-mark.result.now in
    patterns_few gr m.rule _ (found_rule gr.rules m.rule c.rule.result c.in-Some.rule c.rule.ensures.value c.in-Some.is)

pub test_stands-requires-clause-shallow : goal.test_stands-requires-clause-shallow
test_stands-requires-clause-shallow g c =
    let gr = c.args.grammar.now in
    let m = c.index-mark.result.now in
    patterns_shallow gr m.rule _ (found_rule gr.rules m.rule c.rule.result c.in-Some.rule c.rule.ensures.value c.in-Some.is)

pub test_stands-requires-clause-room : goal.test_stands-requires-clause-room
test_stands-requires-clause-room g c =
    let gr = c.args.grammar.now in
    let m = c.index-mark.result.now in
    let ps = map pattern_of c.in-Some.rule.now.patterns in
    omega (arith, leaves_few gr m.rule _ (found_rule gr.rules m.rule c.rule.result c.in-Some.rule c.rule.ensures.value c.in-Some.is), ap length (leaves_join ps))

pub returns-clause-told : goal.returns-clause-told
returns-clause-told g c h m of at rule declared =
    let gr = c.args.grammar.now in
    let names = g.F.Facts.names c.args.facts.now in
    let ms = c.args.entry.now.marks.items in
    let mark = c.index-mark.result.now in
    let here = slice_get_read ms (length ms) c.args.at mark refl c.requires.within c.index-mark.ensures in
    let same = one_mark ms c.args.at m mark at here in
    let found = found_rule gr.rules mark.rule c.rule.result c.in-Some.rule c.rule.ensures.value c.in-Some.is in
    let is = rule_back gr mark.rule c.in-Some.rule.now rule found (ap (λ z. slice_get (grammar_of gr).rules z) (ap (λ z. z.rule) (sym same)) ∙ declared) in
    c.test_stands.ensures.stands gr.sorts h.node h.inherited of.deep (subst (λ s. AreNamed names s h.inherited) (sym c.as_slice.ensures.value) of.slots)
    ∙ ap (told_refusal (g.F.Facts.map c.args.facts.now) h.node h.inherited) (sym is)
