use Rattle.aw_grammar.specs.Kinds.{role_kind}
use Rattle.aw_grammar.specs.GrammarOf.{declarations_of}
use Rattle.aw_grammar.proofs.InTurn.{still_before_sorts}
use Rattle.aw_grammar.proofs.declares.RoleKindDeclares.add.Goals as goal

pub returns-clause-may_come : goal.returns-clause-may_come
returns-clause-may_come c =
    still_before_sorts (role_kind (declarations_of c.args.grammar) c.args.item) c.args.grammar c.args.item c.add_role.result c.add_role.ensures c.requires.may_come
