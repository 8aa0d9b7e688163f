use Rattle.std.proofs.Common.{◌≡◌, ℕ, List, map, Err, subst, rules}
use Rattle.aw_choice.specs.ChoiceView.{item_of}
use Rattle.aw_grammar.specs.GrammarOf.{words_of}
use Rattle.aw_grammar.specs.declared.grammar.Grammar.{Grammar}
use Rattle.aw_out.specs.Edge.{Gets, GetsPrefix}
use Rattle.aw_term.specs.Runs.{item_lines}
use Rattle.aw_book_join.specs.declared.fault.TasksFault.TheVariants.{WriteFault}
use Rattle.aw_book_join.specs.Handing.{HandsOn}
use Rattle.aw_book_join.specs.Tasks.{items_of}
use Rattle.aw_book_join.proofs.Handing.{ends-with, ends-within}
use Rattle.aw_book_join.proofs.Results.{writes-err}
use Rattle.aw_book_join.proofs.items.write_items.Goals as goal

pub returns-in_err-write_all-clause-writes : goal.returns-in_err-write_all-clause-writes
returns-in_err-write_all-clause-writes g c =
    let a = g.K.Sink.written c.args.out.now in
    let b = g.K.Sink.written c.write_each.new.out in
    let z = g.K.Sink.written c.write_all.new.out in
    let left = c.write_each.new.text in
    let is : c.from_residual-in_err-write_all.result ≡ Err WriteFault = search rules in
    let handed = subst (λ (gr : Grammar). HandsOn a b left (item_lines (words_of gr) (items_of c.args.case.now
    (map item_of c.args.items.now)))) c.new-names.ensures c.in_ok-write_each.ensures.hands in
    let part = subst (λ (t : List ℕ). GetsPrefix b z t) c.as_slice.ensures c.in_err-write_all.ensures.prefix in
    writes-err a z (item_lines (words_of c.args.grammar.now) (items_of c.args.case.now (map item_of c.args.items.now))) c.from_residual-in_err-write_all.result WriteFault is
    (ends-within a b z left (item_lines (words_of c.args.grammar.now) (items_of c.args.case.now (map item_of c.args.items.now))) handed part)

pub returns-clause-writes : goal.returns-clause-writes
returns-clause-writes g c =
    let a = g.K.Sink.written c.args.out.now in
    let b = g.K.Sink.written c.write_each.new.out in
    let z = g.K.Sink.written c.write_all.new.out in
    let left = c.write_each.new.text in
    let handed = subst (λ (gr : Grammar). HandsOn a b left (item_lines (words_of gr) (items_of c.args.case.now
    (map item_of c.args.items.now)))) c.new-names.ensures c.in_ok-write_each.ensures.hands in
    let all = subst (λ (t : List ℕ). Gets b z t) c.as_slice.ensures c.in_ok-write_all.ensures.all in
    ends-with a b z left (item_lines (words_of c.args.grammar.now) (items_of c.args.case.now (map item_of c.args.items.now))) handed all
