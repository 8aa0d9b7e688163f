use Rattle.std.proofs.Common.{◌+◌, ◌≤◌, ap, sym, subst, map, arith}
use Rattle.std.specs.Option.{option_copied}
use Rattle.std.proofs.lemmas.Result.{on_err_weaker}
use Rattle.aw_grammar.specs.GrammarOf.{grammar_of}
use Rattle.aw_node_list.specs.HeldView.{all_of}
use Rattle.aw_store.specs.EquationView.{equation_of}
use Rattle.aw_space.specs.Keeping.{KeepsNodes}
use Rattle.aw_space.specs.Placings.{MayBeCalledIf, MayBeLearnt, called_by}
use Rattle.aw_space.specs.Seen.{space_seen, IsUnchanged}
use Rattle.aw_space.specs.TakenIn.{call_taken_cost}
use Rattle.aw_space.proofs.Costing.{taking_costs}
use Rattle.aw_space.proofs.TakenIn.{taken_space, taken_facts, taken_nodes}
use Rattle.aw_space.proofs.Told.{equations_free}
use Rattle.aw_space.proofs.space.Space.take_in.Goals as goal

pub take_all_in-requires-clause-call : goal.take_all_in-requires-clause-call
take_all_in-requires-clause-call g c = subst (λ x. MayBeCalledIf (grammar_of x) c.args.self.now.role (called_by (grammar_of x) (option_copied c.args.call))) c.requires.grammar c.requires.call

pub take_all_in-requires-clause-ok : goal.take_all_in-requires-clause-ok
take_all_in-requires-clause-ok g c = subst (λ x. MayBeLearnt (grammar_of x) c.args.self.now.role (map equation_of c.args.es)) c.requires.grammar c.requires.ok

pub take_all_in-requires-clause-free : goal.take_all_in-requires-clause-free
take_all_in-requires-clause-free g c =
    equations_free (called_by (grammar_of c.args.g.now.grammar) (option_copied c.args.call)) (map equation_of c.args.es) (space_seen g.F.Facts c.args.self.now) c.requires.free

pub returns-clause-space : goal.returns-clause-space
returns-clause-space g c =
    let old = c.args.self.now in
    let new = c.take_all_in.new.self in
    taken_space (grammar_of old.accepted.now.grammar) old.held.items new.held.items (g.F.Facts.map old.facts) (g.F.Facts.map new.facts) (option_copied c.args.call) (map equation_of c.args.es)
    c.take_all_in.result (grammar_of c.args.g.now.grammar) (grammar_of new.accepted.now.grammar) old.choices.items new.choices.items (ap grammar_of (sym c.requires.grammar))
    (ap grammar_of c.take_all_in.ensures.grammar) c.take_all_in.ensures.choices c.take_all_in.ensures.held c.take_all_in.ensures.map

pub returns-clause-facts : goal.returns-clause-facts
returns-clause-facts g c =
    let old = c.args.self.now in
    let new = c.take_all_in.new.self in
    taken_facts (grammar_of old.accepted.now.grammar) old.held.items new.held.items (g.F.Facts.map old.facts) (g.F.Facts.map new.facts) (option_copied c.args.call) (map equation_of c.args.es)
    c.take_all_in.result c.take_all_in.ensures.map (on_err_weaker c.take_all_in.result (λ (w : IsUnchanged g.F.Facts old new). w.equations) c.take_all_in.ensures.err)

pub returns-clause-nodes : goal.returns-clause-nodes
returns-clause-nodes g c =
    let old = c.args.self.now in
    let new = c.take_all_in.new.self in
    subst (λ x. KeepsNodes (space_seen g.F.Facts old).held (all_of (grammar_of x) new.held.items)) (sym c.take_all_in.ensures.grammar)
    (taken_nodes (grammar_of old.accepted.now.grammar) old.held.items new.held.items (g.F.Facts.map old.facts) (g.F.Facts.map new.facts) (option_copied c.args.call) (map equation_of c.args.es)
    c.take_all_in.result c.take_all_in.ensures.held (on_err_weaker c.take_all_in.result (λ (w : IsUnchanged g.F.Facts old new). w.nodes) c.take_all_in.ensures.err))

pub returns-clause-steps : goal.returns-clause-steps
returns-clause-steps g c =
    let old = c.args.self.now in
    let p = option_copied c.args.call in
    let es = map equation_of c.args.es in
    let k = g.F.Facts.map old.facts in
    let hs = old.held.items in
    let cost = subst (λ x. c.take_all_in.new.steps ≤ c.args.steps.now + call_taken_cost (grammar_of x) p hs k es) (sym c.requires.grammar) c.take_all_in.ensures.steps in
    omega (arith, cost, taking_costs (grammar_of c.args.g.now.grammar) p hs (space_seen g.F.Facts old) es (ap (λ x. all_of (grammar_of x) hs) (sym c.requires.grammar)))
