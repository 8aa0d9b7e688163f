use Rattle.std.proofs.Common.{refl}
use Rattle.aw_grammar.specs.Declarations.{with_con}
use Rattle.aw_grammar.specs.Kinds.{con_kind}
use Rattle.aw_grammar.specs.GrammarOf.{declarations_of}
use Rattle.aw_grammar.proofs.InTurn.{still_before_rules}
use Rattle.aw_grammar.proofs.declares.ConKindDeclares.add.Goals as goal

pub returns-clause-may_come : goal.returns-clause-may_come
returns-clause-may_come c =
    let d = declarations_of c.args.grammar in
    still_before_rules (con_kind d c.args.item) c.args.grammar (with_con d c.args.item) c.add_con.result c.add_con.ensures refl c.requires.may_come
