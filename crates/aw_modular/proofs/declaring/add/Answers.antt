use Rattle.aw_modular.specs.Declaring.{IsAny}
use Rattle.aw_modular.proofs.Declarings.{has_sort, number_inherited, number_result, adds_pair}
use Rattle.aw_modular.proofs.declaring.add.Goals as goal

pub add-requires-clause-sort : goal.add-requires-clause-sort
add-requires-clause-sort c = has_sort c.args.g.now c.args.io.now c.args.triple c.requires.made c.requires.within

pub add-requires-clause-inherited : goal.add-requires-clause-inherited
add-requires-clause-inherited c = number_inherited c.args.g.now c.args.triple c.requires.within

pub add-requires-clause-result : goal.add-requires-clause-result
add-requires-clause-result c = number_result c.args.g.now c.args.triple c.requires.within

pub returns-clause-made : goal.returns-clause-made
returns-clause-made c = c.add.ensures.made c.args.g.now c.requires.made

pub returns-clause-pairs : goal.returns-clause-pairs
returns-clause-pairs c = adds_pair IsAny c.args.triple c.args.io.now c.add.new.self tt c.add.ensures.there c.add.ensures.kept c.add.ensures.only
