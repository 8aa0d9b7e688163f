use Rattle.std.proofs.Common.{◌∙◌, sym, ap}
use Rattle.aw_grammar.specs.GrammarOf.{grammar_of, words_of}
use Rattle.aw_base.specs.NodeNames.{Named, node_read}
use Rattle.aw_base.proofs.ReadFronts.{read_whole}
use Rattle.aw_base.proofs.node_reader.ReadName.read.Goals as goal

pub returns-in_ok-node-clause-read : goal.returns-in_ok-node-clause-read
returns-in_ok-node-clause-read c =
    let w = words_of c.args.g.now in
    let g = grammar_of c.args.g.now in
    let r = c.follow.new.self in
    let whole = c.in_ok-follow.ensures.whole c.if-branch.true in
    ap (node_read w g) (sym whole.0) ∙ read_whole w g r.text.items r.start r.case r.steps.items whole.1.0 whole.1.1 c.follow.ensures.read.few
    ∙ ap Named (sym c.in_ok-node.ensures.value)

pub returns-in_ok-node-clause-kept : goal.returns-in_ok-node-clause-kept
returns-in_ok-node-clause-kept c = c.node.ensures.kept (words_of c.args.g.now) (grammar_of c.args.g.now) c.follow.ensures.read

pub returns-in_err-node-clause-kept : goal.returns-in_err-node-clause-kept
returns-in_err-node-clause-kept c = c.node.ensures.kept (words_of c.args.g.now) (grammar_of c.args.g.now) c.follow.ensures.read
