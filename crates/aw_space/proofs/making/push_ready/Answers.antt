use Rattle.std.proofs.Common.{sym, subst, All}
use Rattle.std.proofs.lemmas.List.Elements.{All-push, All-weaker}
use Rattle.aw_grammar.specs.GrammarOf.{grammar_of}
use Rattle.aw_space.specs.Openings.{IsReady}
use Rattle.aw_space.proofs.Openings.{ready_grows}
use Rattle.aw_space.proofs.making.push_ready.Goals as goal

pub returns-clause-ready : goal.returns-clause-ready
returns-clause-ready g c =
    let gr = grammar_of c.args.grammar.now in
    let names = g.F.Facts.names c.args.facts.now in
    let more = g.F.Facts.names c.ready.new.facts in
    subst (All (IsReady gr more)) (sym c.in_ok-push.ensures.items)
    (All-push (IsReady gr more) c.args.more.now.items c.in_ok-new.new
    (All-weaker (IsReady gr names) (IsReady gr more) (ready_grows gr names more c.ready.ensures.names) c.args.more.now.items c.requires.ready) c.in_ok-new.ensures.ready)
