use Rattle.std.proofs.Common.{◌≡◌, ◌+◌, suc, List, map, ap, ◌∙◌, arith}
use Rattle.aw_term.specs.Names.{Ref}
use Rattle.aw_term.specs.Matching.{Yes, and_then, under}
use Rattle.aw_term.specs.Views.{pattern_of}
use Rattle.aw_apply.specs.Guard.{guard_all}
use Rattle.aw_apply.specs.Named.{AreNamed, names_at, as_named}
use Rattle.aw_apply.specs.GuardView.{step_of}
use Rattle.aw_apply.specs.declared.guarding.Step.{Step}
use Rattle.aw_apply.proofs.GuardLemmas.{all_from, one_attribute, leaves_at}
use Rattle.aw_apply.proofs.guard.guard_all.Given.{Over}
use Rattle.aw_apply.proofs.guard.guard_all.Goals as goal
use Rattle.aw_apply.proofs.guard.guard_all.Goals.{After-guard_at}

-- what this attribute gives, and then the others, is the whole
followed : (g : Over) (c : After-guard_at g) (rs : List Ref) (x : Step) → AreNamed (g.F.Facts.names c.args.f.now) c.args.inherited.now rs → c.guard_at.result ≡ x →
    and_then (under (c.loop-i.i + 1) (step_of (g.F.Facts.names c.args.f.now) c.guard_at.new.bound x))
    (as_named (all_from (g.F.Facts.map c.args.f.now) (suc (c.loop-i.i + 1)) (c.loop-i.i + 1) c.args.patterns.now rs))
    ≡ as_named (guard_all (g.F.Facts.map c.args.f.now) 1 (map pattern_of c.args.patterns.now) rs)
followed g c rs x named is =
    one_attribute (g.F.Facts.map c.args.f.now) (g.F.Facts.names c.args.f.now) _ (c.loop-i.i + 1) c.loop-i.i c.args.patterns.now c.args.inherited.now
    rs c.index-patterns-i.result c.loop-i.bound c.guard_at.new.bound x _ _
    c.requires.same c.loop-i-test.true c.index-patterns-i.is named c.new.ensures.steps is c.guard_at.ensures.step (c.loop-i.invariant.0 rs named)

pub returns-in-Waits : goal.returns-in-Waits
returns-in-Waits g c = λ rs named. followed g (goal.at.returns-in-Waits g c).After-guard_at rs _ named c.in-Waits.is

pub returns-in-Circle : goal.returns-in-Circle
returns-in-Circle g c = λ rs named. followed g (goal.at.returns-in-Circle g c).After-guard_at rs _ named c.in-Circle.is

pub returns-in-Differs : goal.returns-in-Differs
returns-in-Differs g c = λ rs named. followed g (goal.at.returns-in-Differs g c).After-guard_at rs _ named c.in-Differs.is

pub loop-i-preserved : goal.loop-i-preserved
loop-i-preserved g c =
    let names = g.F.Facts.names c.args.f.now in
    let ps = c.args.patterns.now in
    let i = c.loop-i.i in
    let next : i + 1 + 1 ≡ suc (i + 1) = omega arith in (
      λ rs named.
          ap (λ n. and_then (Yes (names_at names c.guard_at.new.bound)) (as_named (all_from (g.F.Facts.map c.args.f.now) n (i + 1) ps rs))) next
          ∙ followed g (goal.at.loop-i-preserved g c).After-guard_at rs _ named c.in-Yes.is,
      omega (arith, c.loop-i.invariant.1, c.guard_at.ensures.room, leaves_at ps i c.index-patterns-i.result c.loop-i-test.true c.index-patterns-i.is),
    )
