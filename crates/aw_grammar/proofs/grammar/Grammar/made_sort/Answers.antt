use Rattle.std.proofs.Common.{◌≡◌, ◌∙◌, ap, ℕ}
use Rattle.std.proofs.lemmas.Bool.{not-false}
use Rattle.aw_name_index.specs.Places.{stands, number_of}
use Rattle.aw_grammar.specs.declared.rule.Sort.{Sort}
use Rattle.aw_grammar.specs.Declarations.{sort_declared}
use Rattle.aw_grammar.specs.Kinds.{sort_tests}
use Rattle.aw_name_index.proofs.FirstTold.{none_holds}
use Rattle.aw_grammar.proofs.Added.{listed}
use Rattle.aw_grammar.proofs.grammar.Grammar.made_sort.Goals as goal

pub place-requires : goal.place-requires
place-requires c =
    let g = c.args.self.now in
    let tests = none_holds (sort_tests (listed g.roles g.cons g.sorts g.rules) c.args.sort) c.requires in
    ap (λ n. stands n g.role_index) c.as_slice.ensures ∙ ap (λ ns. stands c.args.sort.role ns) g.role_names ∙ not-false (stands c.args.sort.role g.roles) tests.1.1.0

pub returns : goal.returns
returns c =
    let g = c.args.self.now in
    let sort : Sort = sort_declared (listed g.roles g.cons g.sorts g.rules) c.args.sort in
    let role_is : c.place.result ≡ number_of c.args.sort.role g.roles =
    c.place.ensures.value ∙ ap (λ n. number_of n g.role_index) c.as_slice.ensures ∙ ap (λ ns. number_of c.args.sort.role ns) g.role_names in
    ap (λ (r : ℕ). record sort { role = r }) role_is
