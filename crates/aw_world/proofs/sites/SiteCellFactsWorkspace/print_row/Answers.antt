use Rattle.std.proofs.Common.{◌≡◌, true, ap, sym, subst, ◌∙◌, slice_get}
use Rattle.aw_cells.specs.contracts.cells.CellFactsFacts.TheImpl as cells
use Rattle.aw_grammar.specs.GrammarOf.{grammar_of, words_of}
use Rattle.aw_node_list.specs.HeldView.{held_of}
use Rattle.aw_law_worlds.specs.ReadRows.{IsRead}
use Rattle.aw_out.specs.Report.{Prints}
use Rattle.aw_print.specs.Stacks.{IsReady}
use Rattle.aw_law_sites.specs.ValidNames.{takes_as}
use Rattle.aw_space.specs.Valid.{done_fits}
use Rattle.aw_space.proofs.Standing.{takes_here}
use Rattle.aw_term.specs.Artifacts.{row_text}
use Rattle.aw_term.specs.Rules.{sort_of}
use Rattle.aw_term.proofs.GrammarTests.{grammars_are_one}
use Rattle.aw_world.proofs.HeldRows.{done_here, plain_here}
use Rattle.aw_world.proofs.sites.SiteCellFactsWorkspace.print_row.Goals as goal

pub print_held-requires-clause-named : goal.print_held-requires-clause-named
print_held-requires-clause-named c =
    let space = c.args.self.now.space in
    let h = c.at-held.result.now in
    let here = ap (λ xs. slice_get xs c.args.place) (sym (c.nodes.ensures ∙ ap (λ x. x.held.items) c.space-space.ensures)) ∙ c.at-held.ensures in
    let same = grammars_are_one _ _ c.requires.grammar ∙ sym (ap grammar_of c.grammar.ensures.value) in
    subst (λ g. takes_as g (sort_of g h.node) h.inherited ≡ true) same (takes_here (grammar_of space.accepted.now.grammar) space.role space.held.items c.args.place h space.sound.own here)

pub print_held-requires-clause-done : goal.print_held-requires-clause-done
print_held-requires-clause-done c =
    let space = c.args.self.now.space in
    let h = c.at-held.result.now in
    let here = ap (λ xs. slice_get xs c.args.place) (sym (c.nodes.ensures ∙ ap (λ x. x.held.items) c.space-space.ensures)) ∙ c.at-held.ensures in
    let same = grammars_are_one _ _ c.requires.grammar ∙ sym (ap grammar_of c.grammar.ensures.value) in
    subst (λ g. done_fits g h.node h.done ≡ true) same (done_here (grammar_of space.accepted.now.grammar) space.held.items c.args.place h space.valid.nodes here)

pub print_held-requires-clause-ready : goal.print_held-requires-clause-ready
print_held-requires-clause-ready c =
    let same = c.facts.ensures ∙ ap (λ x. x.facts) c.space-space.ensures in
    let d = c.args.accepted.now.grammar in
    subst (λ g. IsReady g ((cells.ghosts).map c.facts.result.now) ((cells.ghosts).names c.facts.result.now) c.args.report.now c.args.printer.now) (sym c.grammar.ensures.value)
    (subst (λ x. IsReady d ((cells.ghosts).map x) ((cells.ghosts).names x) c.args.report.now c.args.printer.now) (sym same) c.requires.ready)

pub returns-clause-ready : goal.returns-clause-ready
returns-clause-ready c =
    let same = c.facts.ensures ∙ ap (λ x. x.facts) c.space-space.ensures in
    let report = c.print_held.new.report in
    let printer = c.print_held.new.printer in
    subst (λ x. IsReady c.args.accepted.now.grammar ((cells.ghosts).map x) ((cells.ghosts).names x) report printer) same
    (subst (λ g. IsReady g ((cells.ghosts).map c.facts.result.now) ((cells.ghosts).names c.facts.result.now) report printer) c.grammar.ensures.value c.print_held.ensures.ready)

pub returns-clause-prints : goal.returns-clause-prints
returns-clause-prints c = λ p q at read.
    let space = c.args.self.now.space in
    let h = c.at-held.result.now in
    let d = c.args.accepted.now.grammar in
    let k = (cells.ghosts).map c.facts.result.now in
    let here = ap (λ xs. slice_get xs c.args.place) (sym (c.nodes.ensures ∙ ap (λ x. x.held.items) c.space-space.ensures)) ∙ c.at-held.ensures in
    let value = c.grammar.ensures.value in
    let same = grammars_are_one _ _ c.requires.grammar ∙ sym (ap grammar_of value) in
    let node = sym (plain_here (grammar_of space.accepted.now.grammar) space.held.items c.args.place h p here at) ∙ ap (λ g. held_of g h) same in
    let equations = sym (ap (cells.ghosts).map (c.facts.ensures ∙ ap (λ x. x.facts) c.space-space.ensures)) in
    let at_store = subst (λ m. IsRead (grammar_of d) m p q) equations read in
    let at_node = subst (λ x. IsRead (grammar_of d) k x q) node at_store in
    let at_grammar = subst (λ x. IsRead (grammar_of x) k (held_of (grammar_of c.grammar.result.now) h) q) (sym value) at_node in
    subst (λ x. Prints (row_text (words_of x) q) c.args.report.now c.print_held.new.report c.print_held.result) value (c.print_held.ensures.prints q at_grammar)
