use Rattle.std.proofs.Common.{◌+◌, ◌≤◌, ◌∙◌, List, map, sym, subst}
use Rattle.aw_grammar.specs.GrammarOf.{grammar_of}
use Rattle.aw_store.specs.EquationView.{equation_of}
use Rattle.aw_store.specs.declared.equation.Equation.{Equation}
use Rattle.aw_node_list.specs.InOrder.{insert_all_in, done_at}
use Rattle.aw_space.specs.InSpace.{HasAllFor, MayTake, own_in}
use Rattle.aw_space.specs.Openings.{held_in}
use Rattle.aw_space.specs.Taken.{MayBeTaken, rule_tests}
use Rattle.aw_space.proofs.Stills.{still_along}
use Rattle.aw_space.proofs.space.Space.take_rule.Goals as goal

pub taking_of-requires-clause-few : goal.taking_of-requires-clause-few
taking_of-requires-clause-few g c = c.requires.may.few

pub take_ready-requires-clause-may : goal.take_ready-requires-clause-may
take_ready-requires-clause-may g c =
    let f = g.F.Facts in
    let old = c.args.self.now in
    let mid = c.taking_of.new.self in
    let t = c.in-Ok.taking in
    let own = own_in f old c.args.made.children in
    let es = c.args.made.equations in
    let may = still_along f old mid c.taking_of.ensures.still (λ gr role hs k. MayBeTaken gr role hs k c.args.at c.args.choice.now (map equation_of es) own) c.requires.may in
    subst (λ (xs : List Equation). MayTake f mid c.args.at t.copies.done xs (map held_in t.own.items)) (sym c.into_vec.ensures)
    (subst (λ hs. MayTake f mid c.args.at t.copies.done es hs) (sym c.in-Ok.ensures.own)
    (subst (λ d. MayTake f mid c.args.at d es own) (sym c.in-Ok.ensures.done) may))

pub take_ready-requires-clause-all : goal.take_ready-requires-clause-all
take_ready-requires-clause-all g c =
    subst (λ (xs : List Equation). HasAllFor g.F.Facts c.taking_of.new.self c.in-Ok.taking xs) (sym c.into_vec.ensures) c.in-Ok.ensures.all

pub returns-in-Ok-clause-held : goal.returns-in-Ok-clause-held
returns-in-Ok-clause-held g c =
    c.take_ready.ensures.held
    ∙ (λ i. insert_all_in (c.in-Ok.ensures.own i) (done_at (c.in-Ok.ensures.done i) c.args.at (c.taking_of.ensures.still.nodes i)))

pub returns-in-Ok-clause-steps : goal.returns-in-Ok-clause-steps
returns-in-Ok-clause-steps g c =
    let s = c.taking_of.ensures.still in
    subst (λ n. c.take_ready.new.steps ≤ c.args.steps.now + n)
    (λ i. rule_tests (grammar_of (s.grammar i)) (s.nodes i) (s.equations i) (map equation_of (c.into_vec.ensures i)) (c.in-Ok.ensures.own i)) c.take_ready.ensures.steps
