use Rattle.std.proofs.Common.{◌≡◌, ◌++◌, length, true, ap, sym, subst, map, eq-eqb, ◌∙◌}
use Rattle.std.specs.Prelude.{IfOk, OnOk}
use Rattle.aw_accept.specs.declared.accepted.Accepted.{Accepted}
use Rattle.aw_base.specs.ChoiceFits.{choice_ok}
use Rattle.aw_cells.specs.contracts.cells.CellFactsFacts.TheImpl as cells
use Rattle.aw_choice.specs.ChoiceView.{choice_of, answer_of}
use Rattle.aw_grammar.specs.GrammarOf.{grammar_of}
use Rattle.aw_msg.specs.MessageView.{message_of}
use Rattle.aw_law_sites.specs.Choosing.{answer_to, choose}
use Rattle.aw_law_sites.specs.Homes.{home}
use Rattle.aw_law_sites.specs.SiteEvents.{after_choice}
use Rattle.aw_law_sites.specs.Worlds.{node_of}
use Rattle.aw_site.specs.Answers.{sent_by}
use Rattle.aw_site.specs.Seen.{site_seen}
use Rattle.aw_world.proofs.OwnGrammars.{grows_either}
use Rattle.aw_world.proofs.sites.SiteCellFactsWorkspace.choose_into.Goals as goal

pub choose_into-requires-clause-ok : goal.choose_into-requires-clause-ok
choose_into-requires-clause-ok c =
    let same = ap (λ (a : Accepted). grammar_of a.grammar) c.accepted-own.ensures in
    subst (λ g. choice_ok g (choice_of c.args.choice.now) ≡ true) (sym same) c.requires.ok

pub choose_into-requires-clause-here : goal.choose_into-requires-clause-here
choose_into-requires-clause-here c =
    let same = ap (λ (a : Accepted). grammar_of a.grammar) c.accepted-own.ensures in
    eq-eqb _ _ (ap (λ g. home g (node_of (choice_of c.args.choice.now))) same ∙ c.requires.here)

pub returns-clause-answer : goal.returns-clause-answer
returns-clause-answer c =
    let same = ap (λ (a : Accepted). grammar_of a.grammar) c.accepted-own.ensures in
    subst (λ g. IfOk c.choose_into.result (λ r. answer_of r.0 ≡ answer_to (choose g (site_seen cells.ghosts c.args.self.now) (choice_of c.args.choice.now)))) same c.choose_into.ensures.answer

pub returns-clause-count : goal.returns-clause-count
returns-clause-count c =
    let same = ap (λ (a : Accepted). grammar_of a.grammar) c.accepted-own.ensures in
    subst (λ g. IfOk c.choose_into.result (λ r. r.1 ≡ length (sent_by (choose g (site_seen cells.ghosts c.args.self.now) (choice_of c.args.choice.now))))) same c.choose_into.ensures.count

pub returns-clause-site : goal.returns-clause-site
returns-clause-site c =
    let same = ap (λ (a : Accepted). grammar_of a.grammar) c.accepted-own.ensures in
    let s = site_seen cells.ghosts c.args.self.now in
    subst (λ g. OnOk c.choose_into.result (site_seen cells.ghosts c.choose_into.new.self ≡ after_choice s (choose g s (choice_of c.args.choice.now)))) same c.choose_into.ensures.site

pub returns-clause-sent : goal.returns-clause-sent
returns-clause-sent c =
    let same = ap (λ (a : Accepted). grammar_of a.grammar) c.accepted-own.ensures in
    let s = site_seen cells.ghosts c.args.self.now in
    subst (λ g. OnOk c.choose_into.result (map (message_of g) c.choose_into.new.copy ≡ map (message_of g) c.args.copy.now ++ sent_by
    (choose g s (choice_of c.args.choice.now)))) same c.choose_into.ensures.copy

pub returns-clause-grows : goal.returns-clause-grows
returns-clause-grows c = grows_either (message_of (grammar_of c.accepted-own.result.now.grammar)) _ c.choose_into.result c.args.copy.now
    c.choose_into.new.copy c.choose_into.ensures.copy c.choose_into.ensures.err_copy
