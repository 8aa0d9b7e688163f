use Rattle.std.proofs.Common.{◌≡◌, ap, ◌∙◌, is_some, option_map, option_and_then, slice_get}
use Rattle.aw_term.specs.Rules.{Sort, home_of}
use Rattle.aw_grammar.specs.GrammarOf.{grammar_of}
use Rattle.aw_base.proofs.ValidHomes.{home_is_exact}
use Rattle.aw_base.proofs.names.home_of.Goals as goal

pub returns-clause-exact : goal.returns-clause-exact
returns-clause-exact c =
    let g = grammar_of c.args.g.now in
    let value : c.role_of_sort.result ≡ home_of g c.args.n.now =
    c.role_of_sort.ensures ∙ ap (option_and_then (λ s. option_map (λ (t : Sort). t.role) (slice_get g.sorts s))) c.in_ok-sort.ensures in
    ap is_some value ∙ home_is_exact c.args.g.now c.args.n.now
