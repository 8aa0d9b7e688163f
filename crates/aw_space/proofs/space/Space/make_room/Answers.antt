use Rattle.std.proofs.Common.{◌∙◌, sym, subst, map}
use Rattle.aw_grammar.specs.GrammarOf.{grammar_of}
use Rattle.aw_store.specs.EquationView.{equation_of}
use Rattle.aw_space.specs.TakenIn.{IsOpenableIf}
use Rattle.aw_space.proofs.Stills.{ready_if_still, still_then}
use Rattle.aw_space.proofs.Waking.{lefts_named}
use Rattle.aw_space.proofs.space.Space.make_room.Goals as goal

pub make_ready_if-requires : goal.make_ready_if-requires
make_ready_if-requires g c = subst (IsOpenableIf (grammar_of c.args.self.now.accepted.now.grammar)) (sym c.in_ok-new.ensures) c.requires.call

pub returns-in-Ok-clause-new : goal.returns-in-Ok-clause-new
returns-in-Ok-clause-new g c = c.in_ok-opening.ensures.new ∙ c.in_ok-new.ensures

pub returns-in-Ok-clause-ready : goal.returns-in-Ok-clause-ready
returns-in-Ok-clause-ready g c =
    ready_if_still g.F.Facts c.make_ready_if.new.self c.make_known.new.self c.make_known.ensures.still c.make_known.ensures.held c.make_known.ensures.kept c.in_ok-opening.opening
    c.in_ok-opening.ensures.ready

pub returns-in-Ok-clause-named : goal.returns-in-Ok-clause-named
returns-in-Ok-clause-named g c = lefts_named (g.F.Facts.names c.make_known.new.self.facts) (map equation_of c.args.es.now) c.in-Ok.ensures.named

pub returns-in-Ok-clause-still : goal.returns-in-Ok-clause-still
returns-in-Ok-clause-still g c = still_then g.F.Facts c.args.self.now c.make_ready_if.new.self c.make_known.new.self c.make_ready_if.ensures.still c.make_known.ensures.still

pub returns-in-Err-clause-still : goal.returns-in-Err-clause-still
returns-in-Err-clause-still g c = still_then g.F.Facts c.args.self.now c.make_ready_if.new.self c.make_known.new.self c.make_ready_if.ensures.still c.make_known.ensures.still
