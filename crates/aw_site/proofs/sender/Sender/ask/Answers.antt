use Rattle.aw_grammar.specs.GrammarOf.{grammar_of}
use Rattle.aw_site.proofs.NamedHomes.{node_of_ref}
use Rattle.aw_site.proofs.sender.Sender.ask.Goals as goal

pub valid_home-to-requires : goal.valid_home-to-requires
valid_home-to-requires g c = node_of_ref (grammar_of c.args.self.now.grammar.now) c.args.r.now c.requires
