use Rattle.std.proofs.Common.{refl}
use Rattle.aw_grammar.specs.Declarations.{with_sort}
use Rattle.aw_grammar.specs.Kinds.{sort_kind}
use Rattle.aw_grammar.specs.GrammarOf.{declarations_of}
use Rattle.aw_grammar.proofs.InTurn.{still_before_rules}
use Rattle.aw_grammar.proofs.declares.SortKindDeclares.add.Goals as goal

pub returns-clause-may_come : goal.returns-clause-may_come
returns-clause-may_come c =
    let d = declarations_of c.args.grammar in
    still_before_rules (sort_kind d c.args.item) c.args.grammar (with_sort d c.args.item) c.add_sort.result c.add_sort.ensures refl c.requires.may_come
