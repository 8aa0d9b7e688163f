use Rattle.aw_grammar.specs.GrammarOf.{grammar_of}
use Rattle.aw_site.proofs.NamedHomes.{node_of_each}
use Rattle.aw_site.proofs.belonging.none_mine.Goals as goal

pub valid_home-requires : goal.valid_home-requires
valid_home-requires c = node_of_each (grammar_of c.args.g.now) c.args.es.now c.loop-e.e-index c.e-item.result c.loop-e-test.true c.e-item.is c.requires
