use Rattle.std.proofs.Common.{◌∙◌, ap, sym}
use Rattle.aw_grammar.specs.GrammarOf.{grammar_of}
use Rattle.aw_node_list.specs.HeldView.{sort_or}
use Rattle.aw_standing.proofs.MarkLemmas.{fit_prepared, untested_fresh}
use Rattle.aw_standing.proofs.preparing.prepare.Goals as goal

pub returns-clause-fit : goal.returns-clause-fit
returns-clause-fit g c =
    fit_prepared (grammar_of c.args.grammar.now) (g.F.Facts.names c.intern_all.new.f) c.args.node.now c.args.inherited.now _ (ap sort_or (sym c.sort_of.ensures ∙ c.in-Some.is))
    c.in_ok-slots.ensures.slots c.requires.takes c.in_ok-marks.ensures.rules c.in_ok-marks.ensures.untested

pub returns-clause-fresh : goal.returns-clause-fresh
returns-clause-fresh g c n = untested_fresh n c.in_ok-marks.marks.items c.in_ok-marks.ensures.untested
