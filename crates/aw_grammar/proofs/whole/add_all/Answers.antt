-- Class by class: each class is built on what the ones before it have declared.
use Rattle.std.proofs.Common.{◌++◌}
use Rattle.aw_grammar.specs.Build.{roles_placed, cons_placed, sorts_placed, starts_placed, rules_placed}
use Rattle.aw_grammar.specs.GrammarOf.{declarations_of}
use Rattle.aw_grammar.proofs.InTurn.{built_after, stops_before, front_spelled, rest_spelled}
use Rattle.aw_grammar.proofs.whole.add_all.Goals as goal

pub add_each-requires-clause-spelled : goal.add_each-requires-clause-spelled
add_each-requires-clause-spelled c =
    let roles = roles_placed 0 c.args.parts.roles in
    let cons = cons_placed 0 c.args.parts.cons in
    let sorts = sorts_placed 0 c.args.parts.sorts in
    let starts = starts_placed 0 c.args.parts.starts in
    let rules = rules_placed 0 c.args.parts.rules in
    front_spelled roles (cons ++ (sorts ++ (starts ++ rules))) c.requires.spelled

pub add_each-requires-2-clause-spelled : goal.add_each-requires-2-clause-spelled
add_each-requires-2-clause-spelled c =
    let roles = roles_placed 0 c.args.parts.roles in
    let cons = cons_placed 0 c.args.parts.cons in
    let sorts = sorts_placed 0 c.args.parts.sorts in
    let starts = starts_placed 0 c.args.parts.starts in
    let rules = rules_placed 0 c.args.parts.rules in
    front_spelled cons (sorts ++ (starts ++ rules)) (rest_spelled roles (cons ++ (sorts ++ (starts ++ rules))) c.requires.spelled)

pub add_each-requires-3-clause-spelled : goal.add_each-requires-3-clause-spelled
add_each-requires-3-clause-spelled c =
    let roles = roles_placed 0 c.args.parts.roles in
    let cons = cons_placed 0 c.args.parts.cons in
    let sorts = sorts_placed 0 c.args.parts.sorts in
    let starts = starts_placed 0 c.args.parts.starts in
    let rules = rules_placed 0 c.args.parts.rules in
    front_spelled sorts (starts ++ rules) (rest_spelled cons (sorts ++ (starts ++ rules)) (rest_spelled roles (cons ++ (sorts ++ (starts ++ rules))) c.requires.spelled))

pub add_each-requires-4-clause-spelled : goal.add_each-requires-4-clause-spelled
add_each-requires-4-clause-spelled c =
    let roles = roles_placed 0 c.args.parts.roles in
    let cons = cons_placed 0 c.args.parts.cons in
    let sorts = sorts_placed 0 c.args.parts.sorts in
    let starts = starts_placed 0 c.args.parts.starts in
    let rules = rules_placed 0 c.args.parts.rules in
    front_spelled starts rules (rest_spelled sorts (starts ++ rules) (rest_spelled cons (sorts ++ (starts ++ rules)) (rest_spelled roles (cons ++ (sorts ++ (starts ++ rules))) c.requires.spelled)))

pub add_each-requires-5-clause-spelled : goal.add_each-requires-5-clause-spelled
add_each-requires-5-clause-spelled c =
    let roles = roles_placed 0 c.args.parts.roles in
    let cons = cons_placed 0 c.args.parts.cons in
    let sorts = sorts_placed 0 c.args.parts.sorts in
    let starts = starts_placed 0 c.args.parts.starts in
    let rules = rules_placed 0 c.args.parts.rules in
    rest_spelled starts rules (rest_spelled sorts (starts ++ rules) (rest_spelled cons (sorts ++ (starts ++ rules)) (rest_spelled roles (cons ++ (sorts ++ (starts ++ rules))) c.requires.spelled)))

pub returns : goal.returns
returns c =
    let roles = roles_placed 0 c.args.parts.roles in
    let cons = cons_placed 0 c.args.parts.cons in
    let sorts = sorts_placed 0 c.args.parts.sorts in
    let starts = starts_placed 0 c.args.parts.starts in
    let rules = rules_placed 0 c.args.parts.rules in
    built_after (declarations_of c.args.grammar) roles (cons ++ (sorts ++ (starts ++ rules))) c.in_ok-with_roles.with_roles c.add_each-5.result c.in_ok-with_roles.ensures.built
    (built_after (declarations_of c.in_ok-with_roles.with_roles) cons (sorts ++ (starts ++ rules)) c.in_ok-with_cons.with_cons c.add_each-5.result c.in_ok-with_cons.ensures.built
    (built_after (declarations_of c.in_ok-with_cons.with_cons) sorts (starts ++ rules) c.in_ok-with_sorts.with_sorts c.add_each-5.result c.in_ok-with_sorts.ensures.built
    (built_after (declarations_of c.in_ok-with_sorts.with_sorts) starts rules c.in_ok-with_starts.with_starts c.add_each-5.result c.in_ok-with_starts.ensures.built
    c.add_each-5.ensures.built)))

pub returns-in_err-with_roles : goal.returns-in_err-with_roles
returns-in_err-with_roles c =
    let roles = roles_placed 0 c.args.parts.roles in
    let cons = cons_placed 0 c.args.parts.cons in
    let sorts = sorts_placed 0 c.args.parts.sorts in
    let starts = starts_placed 0 c.args.parts.starts in
    let rules = rules_placed 0 c.args.parts.rules in
    stops_before (declarations_of c.args.grammar) roles (cons ++ (sorts ++ (starts ++ rules))) c.in_err-with_roles.field-0.0 c.from_residual.result
    c.from_residual.ensures.1 c.in_err-with_roles.ensures.built

pub returns-in_err-with_cons : goal.returns-in_err-with_cons
returns-in_err-with_cons c =
    let roles = roles_placed 0 c.args.parts.roles in
    let cons = cons_placed 0 c.args.parts.cons in
    let sorts = sorts_placed 0 c.args.parts.sorts in
    let starts = starts_placed 0 c.args.parts.starts in
    let rules = rules_placed 0 c.args.parts.rules in
    built_after (declarations_of c.args.grammar) roles (cons ++ (sorts ++ (starts ++ rules))) c.in_ok-with_roles.with_roles c.from_residual-in_err-with_cons.result c.in_ok-with_roles.ensures.built
    (stops_before (declarations_of c.in_ok-with_roles.with_roles) cons (sorts ++ (starts ++ rules)) c.in_err-with_cons.field-0.0
    c.from_residual-in_err-with_cons.result c.from_residual-in_err-with_cons.ensures.1 c.in_err-with_cons.ensures.built)

pub returns-in_err-with_sorts : goal.returns-in_err-with_sorts
returns-in_err-with_sorts c =
    let roles = roles_placed 0 c.args.parts.roles in
    let cons = cons_placed 0 c.args.parts.cons in
    let sorts = sorts_placed 0 c.args.parts.sorts in
    let starts = starts_placed 0 c.args.parts.starts in
    let rules = rules_placed 0 c.args.parts.rules in
    built_after (declarations_of c.args.grammar) roles (cons ++ (sorts ++ (starts ++ rules))) c.in_ok-with_roles.with_roles c.from_residual-in_err-with_sorts.result c.in_ok-with_roles.ensures.built
    (built_after (declarations_of c.in_ok-with_roles.with_roles) cons (sorts ++ (starts ++ rules)) c.in_ok-with_cons.with_cons c.from_residual-in_err-with_sorts.result c.in_ok-with_cons.ensures.built
    (stops_before (declarations_of c.in_ok-with_cons.with_cons) sorts (starts ++ rules) c.in_err-with_sorts.field-0.0
    c.from_residual-in_err-with_sorts.result c.from_residual-in_err-with_sorts.ensures.1 c.in_err-with_sorts.ensures.built))

pub returns-in_err-with_starts : goal.returns-in_err-with_starts
returns-in_err-with_starts c =
    let roles = roles_placed 0 c.args.parts.roles in
    let cons = cons_placed 0 c.args.parts.cons in
    let sorts = sorts_placed 0 c.args.parts.sorts in
    let starts = starts_placed 0 c.args.parts.starts in
    let rules = rules_placed 0 c.args.parts.rules in
    built_after (declarations_of c.args.grammar) roles (cons ++ (sorts ++ (starts ++ rules))) c.in_ok-with_roles.with_roles c.from_residual-in_err-with_starts.result c.in_ok-with_roles.ensures.built
    (built_after (declarations_of c.in_ok-with_roles.with_roles) cons (sorts ++ (starts ++ rules)) c.in_ok-with_cons.with_cons c.from_residual-in_err-with_starts.result c.in_ok-with_cons.ensures.built
    (built_after (declarations_of c.in_ok-with_cons.with_cons) sorts (starts ++ rules) c.in_ok-with_sorts.with_sorts c.from_residual-in_err-with_starts.result c.in_ok-with_sorts.ensures.built
    (stops_before (declarations_of c.in_ok-with_sorts.with_sorts) starts rules c.in_err-with_starts.field-0.0
    c.from_residual-in_err-with_starts.result c.from_residual-in_err-with_starts.ensures.1 c.in_err-with_starts.ensures.built)))
