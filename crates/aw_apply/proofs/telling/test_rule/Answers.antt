use Rattle.std.proofs.Common.{◌∙◌, map, ◌≡◌, List}
use Rattle.std.proofs.lemmas.Result.{IfOk-weaker}
use Rattle.aw_term.specs.Names.{Ref}
use Rattle.aw_term.specs.Views.{pattern_of}
use Rattle.aw_store.specs.NamedRefs.{AreNamed}
use Rattle.aw_apply.specs.Guard.{guard_all}
use Rattle.aw_apply.specs.GuardView.{guard_of}
use Rattle.aw_apply.specs.Named.{as_named}
use Rattle.aw_apply.specs.Telling.{matched_of}
use Rattle.aw_apply.specs.declared.telling.Tested.{Tested}
use Rattle.aw_apply.proofs.TellLemmas.{guard_live, matched_one, named_some}
use Rattle.aw_apply.proofs.telling.test_rule.Goals as goal

pub tell_guard-requires : goal.tell_guard-requires
tell_guard-requires g c =
    let ns = g.F.Facts.names c.args.f.now in
    let (rs, named) = named_some ns c.args.slots.now c.requires.live in
    guard_live ns c.test_guard-guard.result (guard_all (g.F.Facts.map c.args.f.now) 1 (map pattern_of c.args.rule.now.patterns) rs) (c.test_guard-guard.ensures.guard rs named)

pub returns-clause-guard : goal.returns-clause-guard
returns-clause-guard g c =
    let ns = g.F.Facts.names c.args.f.now in
    let k = g.F.Facts.map c.args.f.now in
    let ps = map pattern_of c.args.rule.now.patterns in
    IfOk-weaker c.tell_guard.result (λ (t : Tested). as_named (matched_of t) ≡ guard_of ns c.test_guard-guard.result)
    (λ (t : Tested). (rs : List Ref) → AreNamed ns c.args.slots.now rs → matched_of t ≡ guard_all k 1 ps rs)
    (λ t w rs named. matched_one (matched_of t) (guard_all k 1 ps rs) (w ∙ c.test_guard-guard.ensures.guard rs named)) c.tell_guard.ensures
