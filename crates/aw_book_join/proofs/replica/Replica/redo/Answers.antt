use Rattle.std.proofs.Common.{sym, refl}
use Rattle.aw_journal.specs.EventView.{event_of}
use Rattle.aw_book_join.specs.Replicas.{rules_in, site_of}
use Rattle.aw_book_join.proofs.Replicas.{follows-all, stays-all}
use Rattle.aw_book_join.proofs.replica.Replica.redo.Goals as goal

pub redo-requires-clause-grammar : goal.redo-requires-clause-grammar
redo-requires-clause-grammar c = sym c.requires.usable.grammar

pub returns-clause-redone : goal.returns-clause-redone
returns-clause-redone c = λ role events h.
    let x = c.args.self.now in
    let s = site_of (rules_in x) role events in
    follows-all x (record x { site = c.redo.new.site }) role events (event_of c.args.event.now) c.redo.result refl h (c.redo.ensures.news s h.shown) (c.redo.ensures.site s h.shown)

pub returns-clause-err : goal.returns-clause-err
returns-clause-err c = λ role events h.
    let x = c.args.self.now in
    stays-all x (record x { site = c.redo.new.site }) role events c.redo.result refl h (c.redo.ensures.err (site_of (rules_in x) role events) h.shown)
