use Rattle.std.proofs.Common.{refl, sym, subst, arith}
use Rattle.std.specs.Prelude.{Err}
use Rattle.aw_spelling.specs.NodeParts.{begins}
use Rattle.aw_spelling.specs.Spelling.{parts_of_name}
use Rattle.aw_grammar.specs.GrammarOf.{grammar_of, words_of}
use Rattle.aw_base.specs.NodeNames.{node_read}
use Rattle.aw_base.specs.NodeReading.{Reads}
use Rattle.aw_base.proofs.NodeReads.{long_name, short_name}
use Rattle.aw_base.proofs.read_node.parse_node.Goals as goal

pub returns-then-slashes-gt-MOST-clause-read : goal.returns-then-slashes-gt-MOST-clause-read
returns-then-slashes-gt-MOST-clause-read c =
    let w = words_of c.args.g.now in
    let g = grammar_of c.args.g.now in
    let text = c.args.text.now in
    subst (λ f. Reads (node_read w g text) (Err f)) (sym c.long_fault.ensures) (long_name w g text (parts_of_name text) refl (omega arith))

pub node_of-requires-clause-few : goal.node_of-requires-clause-few
node_of-requires-clause-few c = short_name c.args.text.now (begins c.in-Some.name) c.in-Some.ensures.value (omega arith)
