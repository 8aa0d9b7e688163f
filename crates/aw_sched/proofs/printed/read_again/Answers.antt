use Rattle.std.proofs.Common.{◌∙◌}
use Rattle.aw_grammar.specs.GrammarOf.{grammar_of, words_of}
use Rattle.aw_base.specs.NodeNames.{node_read}
use Rattle.aw_sched.proofs.Outcomes.{ok_named, err_named}
use Rattle.aw_sched.proofs.ProgramNodes.{read_by_grammar}
use Rattle.aw_sched.proofs.printed.read_again.Goals as goal

pub returns-clause-ok : goal.returns-clause-ok
returns-clause-ok c =
    let g = c.args.g.now in
    let n = c.args.n.now in
    let text = c.as_slice.result.now in
    ok_named (node_read (words_of g) (grammar_of g) text) n c.parse_node.result
    (read_by_grammar g n text c.node_is_held.ensures c.requires (c.as_slice.ensures ∙ c.in_ok-text.ensures)) c.parse_node.ensures.read

pub returns-clause-err : goal.returns-clause-err
returns-clause-err c =
    let g = c.args.g.now in
    let n = c.args.n.now in
    let text = c.as_slice.result.now in
    err_named (node_read (words_of g) (grammar_of g) text) n c.parse_node.result
    (read_by_grammar g n text c.node_is_held.ensures c.requires (c.as_slice.ensures ∙ c.in_ok-text.ensures)) c.parse_node.ensures.read
