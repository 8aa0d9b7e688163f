use Rattle.aw_grammar.specs.GrammarOf.{grammar_of}
use Rattle.aw_site.specs.Views.{child_call}
use Rattle.aw_site.proofs.ParentRoles.{called_valid}
use Rattle.aw_site.proofs.sender.Sender.call_out.Goals as goal

pub valid_home-to-requires : goal.valid_home-to-requires
valid_home-to-requires g c =
    let gr = grammar_of c.args.self.now.grammar.now in
    called_valid gr (child_call gr c.args.child.now) c.requires
