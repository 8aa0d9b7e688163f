use Rattle.std.proofs.Common.{◌∙◌, ap, map, sym, subst}
use Rattle.aw_grammar.specs.GrammarOf.{grammar_of}
use Rattle.aw_world.specs.Opened.{AreAtHome}
use Rattle.aw_law_sites.specs.Worlds as V
use Rattle.aw_world.proofs.QuietRows.{prints_quiet}
use Rattle.aw_world.proofs.WorldFacts.{reached_homes}
use Rattle.aw_world.proofs.world.World.print_rows.Goals as goal

pub print_all-requires-clause-homes : goal.print_all-requires-clause-homes
print_all-requires-clause-homes g c =
    let f = g.W.Workspace in
    let w = c.args.self.now in
    subst (λ ws. AreAtHome f (grammar_of w.accepted.now.grammar) ws) (sym c.as_slice.ensures.value)
    (reached_homes f w.accepted.now w.loads w.sites.items w.messages w.marks.delivered.items w.taken.items w.reached g.met.W.Workspace.holds w.placed)

pub returns-clause-prints : goal.returns-clause-prints
returns-clause-prints g c = λ v S. c.print_all.ensures v (ap (map (λ w. g.W.Workspace.seen w)) c.as_slice.ensures.value ∙ ap (λ (u : V.World). u.sites) S)

pub returns-clause-quiet : goal.returns-clause-quiet
returns-clause-quiet g c = λ quiet.
    prints_quiet g.W.Workspace c.args.self.now quiet c.args.report.now c.print_all.new.report c.print_all.result
    (λ v S. c.print_all.ensures v (ap (map (λ w. g.W.Workspace.seen w)) c.as_slice.ensures.value ∙ ap (λ (u : V.World). u.sites) S))
