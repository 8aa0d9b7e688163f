use Rattle.std.proofs.Common.{◌≡◌, ◌∙◌, ◌<◌, sym, subst, arith}
use Rattle.std.specs.Prelude.{vec_len, vec_capacity}
use Rattle.std.specs.declared.vec.Vec.{Vec}
use Rattle.std.specs.declared.alloc.Global.{Global}
use Rattle.aw_choice.specs.declared.choice.Choice.{Choice}
use Rattle.aw_term.specs.Names.{root}
use Rattle.aw_term.specs.Rules.{sort_of}
use Rattle.aw_grammar.specs.GrammarOf.{grammar_of}
use Rattle.aw_node_list.specs.HeldView.{sort_or}
use Rattle.aw_node_list.specs.InOrder.{insert_in}
use Rattle.aw_space.specs.Costs.{rules_of}
use Rattle.aw_space.specs.InSpace.{MayHold, node_tests}
use Rattle.aw_space.specs.Openings.{IsOpenable, opened}
use Rattle.aw_space.specs.Taken.{MayBeHeld}
use Rattle.aw_space.proofs.Stills.{still_along}
use Rattle.aw_space.proofs.space.Space.take_start.Goals as goal

pub make_ready-requires : goal.make_ready-requires
make_ready-requires g c = subst (IsOpenable (grammar_of c.args.self.now.accepted.now.grammar)) (sym c.new_case-node.ensures) c.requires.openable

pub put-requires-clause-may : goal.put-requires-clause-may
put-requires-clause-may g c =
    let old = c.args.self.now in
    let mid = c.make_ready.new.self in
    let h = opened c.args.sort c.args.case in
    subst (MayHold g.F.Facts mid) (sym (c.in_ok-opening.ensures.node ∙ c.new_case-node.ensures))
    (still_along g.F.Facts old mid c.make_ready.ensures.still (λ gr role hs k. MayBeHeld gr role hs k h) c.requires)

pub put-requires-clause-ready : goal.put-requires-clause-ready
put-requires-clause-ready g c = c.in_ok-opening.ensures.ready

pub push_choice-requires : goal.push_choice-requires
push_choice-requires g c = subst (λ (v : Vec Choice Global). vec_len v < vec_capacity v) (sym c.put.ensures.choices) c.in-Ok.ensures.place

pub returns-in-Ok-clause-held : goal.returns-in-Ok-clause-held
returns-in-Ok-clause-held g c = c.put.ensures.held ∙ (λ i. insert_in ((c.in_ok-opening.ensures.node ∙ c.new_case-node.ensures) i) (c.make_ready.ensures.still.nodes i))

pub returns-in-Ok-clause-steps : goal.returns-in-Ok-clause-steps
returns-in-Ok-clause-steps g c =
    let f = g.F.Facts in
    let is = c.in_ok-opening.ensures.node ∙ c.new_case-node.ensures in
    let s = c.make_ready.ensures.still in
    let same : node_tests f c.make_ready.new.self c.in_ok-opening.opening.held.node ≡ node_tests f c.args.self.now (root c.args.sort c.args.case) =
    λ i. rules_of (grammar_of (s.grammar i)) (sort_or (sort_of (grammar_of (s.grammar i)) (is i).node)) in
    omega (arith, c.put.ensures.steps, same)
