use Rattle.std.proofs.Common.{◌≡◌, ◌∙◌, is_some, ap, arith, false}
use Rattle.std.specs.Prelude.{option_and_then}
use Rattle.aw_store.specs.Equations.{find}
use Rattle.aw_store.specs.NamedRefs.{is_named}
use Rattle.aw_space.proofs.Waking.{found_named}
use Rattle.aw_space.proofs.learning.wake.Goals as goal

pub learn-requires-clause-learnt : goal.learn-requires-clause-learnt
learn-requires-clause-learnt g c = ap is_some (ap (option_and_then (find (g.F.Facts.map c.args.facts.now))) c.in-Some.ensures) ∙ c.requires.known

pub returns-clause-kept : goal.returns-clause-kept
returns-clause-kept g c row late w = c.learn.ensures.kept row c.args.left.now late c.in-Some.ensures w

pub returns-clause-steps : goal.returns-clause-steps
returns-clause-steps g c most b =
    let known = ap is_some (ap (option_and_then (find (g.F.Facts.map c.args.facts.now))) c.in-Some.ensures) ∙ c.requires.known in
    omega (arith, c.learn.ensures.steps, b c.in-Some.slot c.args.left.now c.in-Some.ensures known)

pub returns-clause-fewer : goal.returns-clause-fewer
returns-clause-fewer g c most b slot r here known = omega (arith, c.learn.ensures.fewer slot known, b slot r here known)

pub unreachable-requires : goal.unreachable-requires
unreachable-requires g c =
    let facts = c.args.facts.now in
    let yes = found_named (g.F.Facts.names facts) (g.F.Facts.map facts) c.args.left.now (g.met.F.Facts.all_named facts) c.requires.known in
    let no : is_named (g.F.Facts.names facts) c.args.left.now ≡ false = c.in-None.ensures {u = tt} in
    absurd cc
