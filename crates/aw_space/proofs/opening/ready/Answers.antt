use Rattle.std.proofs.Common.{◌∙◌, ap, length, subst}
use Rattle.aw_standing.specs.Records.{IsOf, open_node}
use Rattle.aw_term.specs.Rules.{sort_of}
use Rattle.aw_grammar.specs.GrammarOf.{grammar_of}
use Rattle.aw_space.proofs.Openings.{takes_sort, takes_many, of_held}
use Rattle.aw_space.proofs.opening.ready.Goals as goal

pub prepare-requires-clause-valid : goal.prepare-requires-clause-valid
prepare-requires-clause-valid g c = let gr = grammar_of c.args.grammar.now in takes_sort gr (sort_of gr c.args.held.node) c.args.held.inherited c.requires.takes

pub prepare-requires-clause-takes : goal.prepare-requires-clause-takes
prepare-requires-clause-takes g c = let gr = grammar_of c.args.grammar.now in ap length c.as_slice.ensures ∙ takes_many gr (sort_of gr c.args.held.node) c.args.held.inherited c.requires.takes

pub returns-clause-ready : goal.returns-clause-ready
returns-clause-ready g c = record {
  done = c.requires.done;
  of_node = of_held (grammar_of c.args.grammar.now) (g.F.Facts.names c.prepare.new.facts) c.args.held c.in_ok-entry.entry c.requires.done
      (subst (λ rs. IsOf (grammar_of c.args.grammar.now) (g.F.Facts.names c.prepare.new.facts) (open_node c.args.held.node rs) c.in_ok-entry.entry) c.as_slice.ensures c.in_ok-entry.ensures.of_node);
  fit = c.in_ok-entry.ensures.fit;
  fresh = c.in_ok-entry.ensures.fresh;
}
