use Rattle.std.proofs.Common.{◌≡◌, ap, map, subst}
use Rattle.std.specs.Prelude.{IfOk}
use Rattle.aw_accept.specs.declared.accepted.Accepted.{Accepted}
use Rattle.aw_cells.specs.contracts.cells.CellFactsFacts.TheImpl as cells
use Rattle.aw_choice.specs.ChoiceView.{item_of}
use Rattle.aw_grammar.specs.GrammarOf.{grammar_of}
use Rattle.aw_law_sites.specs.Worklists.{site_worklist}
use Rattle.aw_site.specs.Seen.{site_seen}
use Rattle.aw_world.proofs.sites.SiteCellFactsWorkspace.list.Goals as goal

pub returns : goal.returns
returns c =
    let same = ap (λ (a : Accepted). grammar_of a.grammar) c.accepted.ensures in
    let s = site_seen cells.ghosts c.args.self.now in
    subst (λ g. IfOk c.list.result (λ items. map item_of items ≡ site_worklist g s.equations s.held)) same c.list.ensures
