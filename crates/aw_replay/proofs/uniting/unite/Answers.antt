use Rattle.std.proofs.Common.{◌∙◌}
use Rattle.aw_replay.proofs.Declarations.{grammar_seen, words_seen, good_united, variables_united}
use Rattle.aw_replay.proofs.uniting.unite.Goals as goal

pub of_declared-requires-clause-well_formed : goal.of_declared-requires-clause-well_formed
of_declared-requires-clause-well_formed c =
    let g = c.args.g.now in
    good_united g.roles g.cons g.sorts g.rules c.in_ok-roles.roles c.in_ok-cons.cons c.in_ok-sorts.sorts c.in_ok-rules.rules c.in_ok-roles.ensures
    c.in_ok-cons.ensures c.in_ok-sorts.ensures c.in_ok-rules.ensures g.well_formed

pub of_declared-requires-clause-variables : goal.of_declared-requires-clause-variables
of_declared-requires-clause-variables c =
    let g = c.args.g.now in
    variables_united g.roles g.cons g.sorts g.rules c.in_ok-roles.roles c.in_ok-cons.cons c.in_ok-sorts.sorts c.in_ok-rules.rules
    c.in_ok-roles.ensures c.in_ok-cons.ensures c.in_ok-sorts.ensures c.in_ok-rules.ensures g.variables_fit

pub returns-clause-words : goal.returns-clause-words
returns-clause-words c =
    let g = c.args.g.now in
    let h = c.in_ok-one.one in
    words_seen g.roles g.cons g.sorts g.rules h.roles h.cons h.sorts h.rules
    (c.in_ok-one.ensures.roles ∙ c.in_ok-roles.ensures) (c.in_ok-one.ensures.cons ∙ c.in_ok-cons.ensures) (c.in_ok-one.ensures.sorts
    ∙ c.in_ok-sorts.ensures) (c.in_ok-one.ensures.rules ∙ c.in_ok-rules.ensures)

pub returns-clause-grammar : goal.returns-clause-grammar
returns-clause-grammar c =
    let g = c.args.g.now in
    let h = c.in_ok-one.one in
    grammar_seen g.roles g.cons g.sorts g.rules h.roles h.cons h.sorts h.rules
    (c.in_ok-one.ensures.roles ∙ c.in_ok-roles.ensures) (c.in_ok-one.ensures.cons ∙ c.in_ok-cons.ensures) (c.in_ok-one.ensures.sorts
    ∙ c.in_ok-sorts.ensures) (c.in_ok-one.ensures.rules ∙ c.in_ok-rules.ensures)
