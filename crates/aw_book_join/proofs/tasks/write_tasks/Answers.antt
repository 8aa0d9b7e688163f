use Rattle.std.proofs.Common.{◌≡◌, List, ◌++◌, map, Err, sym, ap, ◌∙◌, subst, rules}
use Rattle.std.specs.Prelude.{IfErr, Result}
use Rattle.std.specs.List.{concat}
use Rattle.aw_choice.specs.ChoiceView.{item_of}
use Rattle.aw_grammar.specs.GrammarOf.{grammar_of, words_of}
use Rattle.aw_grammar.specs.declared.grammar.Grammar.{Grammar}
use Rattle.aw_term.specs.Artifacts.{Item}
use Rattle.aw_term.specs.Runs.{item_lines}
use Rattle.aw_term.proofs.GrammarTests.{grammars_are_one}
use Rattle.aw_law_sites.specs.Worklists.{site_worklist}
use Rattle.aw_book_join.specs.declared.fault.TasksFault.{TasksFault}
use Rattle.aw_book_join.specs.declared.fault.TasksFault.TheVariants.{NoMemory}
use Rattle.aw_book_join.specs.Handing.{Writes}
use Rattle.aw_book_join.specs.Lines.{TellsTask}
use Rattle.aw_book_join.specs.Tasks.{items_of, standing_lines}
use Rattle.aw_book_join.proofs.Handing.{whole-prefix, longer-prefix}
use Rattle.aw_book_join.proofs.Results.{writes-err, writes-front, writes-second, tells-passed}
use Rattle.aw_book_join.proofs.Telling.{no-task}
use Rattle.aw_book_join.proofs.Whole.{all-tasks}
use Rattle.aw_book_join.proofs.tasks.write_tasks.Goals as goal

pub returns-in_err-write_lines-clause-writes : goal.returns-in_err-write_lines-clause-writes
returns-in_err-write_lines-clause-writes g c =
    let s = g.W.Workspace.seen c.args.site.now in
    let d = c.args.accepted.now.grammar in
    let v = c.args.view.now in
    let a = g.K.Sink.written c.args.out.now in
    let b = g.K.Sink.written c.write_lines.new.out in
    all-tasks d v s a b c.from_residual.result
    (λ texts p. writes-front a b (concat texts) (standing_lines (words_of d) (grammar_of d) v s) c.write_lines.result c.from_residual.result _ c.in_err-write_lines.was (search rules)
    (c.write_lines.ensures.writes.text texts p))
    (tells-passed (TellsTask d v s) c.write_lines.result c.from_residual.result _ c.in_err-write_lines.was (search rules) (c.in_err-write_lines.ensures.writes.long))

pub returns-in_err-items-clause-writes : goal.returns-in_err-items-clause-writes
returns-in_err-items-clause-writes g c =
    let s = g.W.Workspace.seen c.args.site.now in
    let d = c.args.accepted.now.grammar in
    let v = c.args.view.now in
    let a = g.K.Sink.written c.args.out.now in
    let b = g.K.Sink.written c.write_lines.new.out in
    let standing = standing_lines (words_of d) (grammar_of d) v s in
    let is : c.from_residual-in_err-items.result ≡ Err NoMemory = search rules in
    all-tasks d v s a b c.from_residual-in_err-items.result
    (λ texts p. writes-err a b (concat texts ++ standing) c.from_residual-in_err-items.result NoMemory is
    (longer-prefix a b (concat texts) standing (whole-prefix a b (concat texts) (c.in_ok-write_lines.ensures.writes.text texts p))))
    (subst (λ (x : Result Unit TasksFault). IfErr x (TellsTask d v s)) (sym is) tt)

pub returns-clause-writes : goal.returns-clause-writes
returns-clause-writes g c =
    let s = g.W.Workspace.seen c.args.site.now in
    let d = c.args.accepted.now.grammar in
    let v = c.args.view.now in
    let a = g.K.Sink.written c.args.out.now in
    let b = g.K.Sink.written c.write_lines.new.out in
    let z = g.K.Sink.written c.write_items.new.out in
    let listed = ap (map item_of) c.as_slice.ensures ∙ c.in_ok-items.ensures ∙ ap (λ gr. site_worklist gr s.equations s.held) (grammars_are_one _ _ c.requires) in
    let at_grammar = subst (λ (gr : Grammar). Writes b z (item_lines (words_of gr) (items_of v.case
    (map item_of c.as_slice.result.now))) c.write_items.result) c.grammar.ensures.value c.write_items.ensures.writes in
    let standing = subst (λ (items : List Item). Writes b z (item_lines (words_of d) (items_of v.case items)) c.write_items.result) listed at_grammar in
    all-tasks d v s a z c.write_items.result
    (λ texts p. writes-second a b z (concat texts) (standing_lines (words_of d) (grammar_of d) v s) c.write_items.result (c.in_ok-write_lines.ensures.writes.text texts p) standing)
    (no-task d v s c.write_items.result c.write_items.ensures.no_line)
