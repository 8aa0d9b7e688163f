use Rattle.std.proofs.Common.{◌≡◌, ◌+◌, ◌<◌, length, ap, sym, ◌∙◌, arith}
use Rattle.aw_term.specs.Matching.{Yes, Differs, and_then, match}
use Rattle.aw_term.specs.Views.{pattern_of}
use Rattle.aw_choice.specs.ChoiceView.{path_of}
use Rattle.aw_plain_rows.specs.TreeView.{value_of, values_of}
use Rattle.aw_plain.specs.MatchView.{matched_of}
use Rattle.aw_plain.proofs.MatchLemmas.{more_taken}
use Rattle.aw_plain.proofs.GuardLemmas.{guard_from, guard_step}
use Rattle.aw_plain.proofs.guard.match_each.Goals as goal

pub loop-i-preserved : goal.loop-i-preserved
loop-i-preserved c =
    let ps = c.args.patterns.now in
    let ts = c.args.inherited.now in
    let i = c.loop-i.i in
    let lt : i < length ps = c.loop-i-test.true in
    let old = c.loop-i.taken.items in
    let found = c.in-Yes.found in
    let em : Yes (values_of found) ≡ match (pattern_of c.index-patterns-i.result) (value_of c.index-inherited-i.result) = ap matched_of (sym c.in-Yes.is) ∙ c.in_ok-found.ensures in
    ap (λ us. and_then (Yes (values_of us)) (guard_from (i + 1 + 1) (i + 1) ps ts)) c.in_ok-append-in-Yes.ensures
    ∙ more_taken old found _
    ∙ ap (λ n. and_then (Yes (values_of old)) (and_then (Yes (values_of found)) (guard_from n (i + 1) ps ts))) (omega arith)
    ∙ guard_step (i + 1) i ps ts _ _ (values_of old) (Yes (values_of found)) _ lt (omega (arith, lt, c.requires.same)) c.index-patterns-i.is c.index-inherited-i.is em c.loop-i.invariant

pub returns-in-Waits : goal.returns-in-Waits
returns-in-Waits c =
    let ps = c.args.patterns.now in
    let ts = c.args.inherited.now in
    let i = c.loop-i.i in
    let lt : i < length ps = c.loop-i-test.true in
    guard_step (i + 1) i ps ts _ _ (values_of c.loop-i.taken.items) _ _ lt (omega (arith, lt, c.requires.same)) c.index-patterns-i.is
    c.index-inherited-i.is (ap matched_of (sym c.in-Waits.is) ∙ c.in_ok-found.ensures) c.loop-i.invariant

pub returns-in-Differs : goal.returns-in-Differs
returns-in-Differs c =
    let ps = c.args.patterns.now in
    let ts = c.args.inherited.now in
    let i = c.loop-i.i in
    let lt : i < length ps = c.loop-i-test.true in
    guard_step (i + 1) i ps ts _ _ (values_of c.loop-i.taken.items) (Differs (path_of c.in-Differs.path)) _ lt (omega (arith, lt, c.requires.same))
    c.index-patterns-i.is c.index-inherited-i.is (ap matched_of (sym c.in-Differs.is) ∙ c.in_ok-found.ensures) c.loop-i.invariant
