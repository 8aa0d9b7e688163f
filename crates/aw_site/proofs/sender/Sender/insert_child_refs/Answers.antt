use Rattle.aw_grammar.specs.GrammarOf.{grammar_of}
use Rattle.aw_site.specs.Views.{child_call}
use Rattle.aw_site.proofs.ParentRoles.{called_valid}
use Rattle.aw_site.proofs.sender.Sender.insert_child_refs.Goals as goal

pub valid_home-requires : goal.valid_home-requires
valid_home-requires g c =
    let gr = grammar_of c.args.self.now.grammar.now in
    called_valid gr (child_call gr c.args.child.now) c.requires.valid
