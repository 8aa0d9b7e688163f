use Rattle.std.proofs.Common.{◌∙◌, map, ap}
use Rattle.std.proofs.lemmas.List.{map-id}
use Rattle.aw_name_index.specs.Places.{has_double}
use Rattle.aw_grammar.specs.declared.rule.Con.{Con}
use Rattle.aw_grammar.specs.declared.rule.Sort.{Sort}
use Rattle.aw_grammar.specs.declared.rule.Rule.{Rule}
use Rattle.aw_grammar.proofs.NamedOnce.{once}
use Rattle.aw_grammar.proofs.of_declared.all_indexes.Goals as goal

pub two_indexes-requires-clause-first : goal.two_indexes-requires-clause-first
two_indexes-requires-clause-first c = ap has_double (map-id c.as_slice.result.now ∙ c.as_slice.ensures) ∙ once c.args.roles.now c.requires (λ w. w.roles_differ)

pub two_indexes-requires-clause-second : goal.two_indexes-requires-clause-second
two_indexes-requires-clause-second c = ap (λ xs. has_double (map (λ (x : Con). x.name) xs)) c.as_slice-2.ensures ∙ once (map (λ (x : Con). x.name) c.args.cons.now) c.requires (λ w. w.cons_differ)

pub two_indexes-requires-2-clause-first : goal.two_indexes-requires-2-clause-first
two_indexes-requires-2-clause-first c = ap (λ xs. has_double (map (λ (x : Sort). x.name) xs)) c.as_slice-3.ensures ∙ once (map (λ (x : Sort). x.name) c.args.sorts.now) c.requires (λ w. w.sorts_differ)

pub two_indexes-requires-2-clause-second : goal.two_indexes-requires-2-clause-second
two_indexes-requires-2-clause-second c = ap (λ xs. has_double (map (λ (x : Rule). x.name) xs)) c.as_slice-4.ensures
    ∙ once (map (λ (x : Rule). x.name) c.args.rules.now) c.requires (λ w. w.rules_differ)

pub returns-clause-roles : goal.returns-clause-roles
returns-clause-roles c = c.in_ok-first_two.ensures.first ∙ map-id c.as_slice.result.now ∙ c.as_slice.ensures

pub returns-clause-cons : goal.returns-clause-cons
returns-clause-cons c = c.in_ok-first_two.ensures.second ∙ ap (map (λ (x : Con). x.name)) c.as_slice-2.ensures

pub returns-clause-sorts : goal.returns-clause-sorts
returns-clause-sorts c = c.in_ok-last_two.ensures.first ∙ ap (map (λ (x : Sort). x.name)) c.as_slice-3.ensures

pub returns-clause-rules : goal.returns-clause-rules
returns-clause-rules c = c.in_ok-last_two.ensures.second ∙ ap (map (λ (x : Rule). x.name)) c.as_slice-4.ensures
