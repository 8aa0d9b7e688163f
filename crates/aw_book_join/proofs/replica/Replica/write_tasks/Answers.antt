use Rattle.std.proofs.Common.{◌≡◌, true, sym, ap, subst}
use Rattle.aw_grammar.specs.GrammarOf.{grammar_of}
use Rattle.aw_term.specs.SameGrammar.{same_grammar}
use Rattle.aw_term.proofs.GrammarTests.{grammar_is_itself}
use Rattle.aw_law_sites.specs.Sites.{Site}
use Rattle.aw_book_join.specs.Writing.{WritesTasks}
use Rattle.aw_book_join.proofs.replica.Replica.write_tasks.Goals as goal

pub write_tasks-requires : goal.write_tasks-requires
write_tasks-requires g c =
    let given = grammar_of c.args.self.now.accepted.now.grammar in
    subst (λ x. same_grammar x given ≡ true) (sym (ap grammar_of c.requires.grammar)) (grammar_is_itself given)

pub returns-clause-writes : goal.returns-clause-writes
returns-clause-writes g c = λ role events h.
    subst (λ (s : Site). WritesTasks c.args.self.now.accepted.now.grammar c.args.view.now s (g.K.Sink.written c.args.out.now) (g.K.Sink.written c.write_tasks.new.out) c.write_tasks.result) h.shown
    c.write_tasks.ensures.writes
