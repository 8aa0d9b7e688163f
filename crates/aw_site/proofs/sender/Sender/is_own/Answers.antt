use Rattle.aw_grammar.specs.GrammarOf.{grammar_of}
use Rattle.aw_site.proofs.NamedHomes.{node_of_ref}
use Rattle.aw_site.proofs.sender.Sender.is_own.Goals as goal

pub valid_home-requires : goal.valid_home-requires
valid_home-requires g c = node_of_ref (grammar_of c.args.self.now.grammar.now) c.args.r.now c.requires
