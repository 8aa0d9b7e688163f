use Rattle.std.proofs.Common.{◌≡◌, ◌∙◌, ap, sym, map}
use Rattle.aw_name_index.specs.Places.{stands, number_of}
use Rattle.aw_grammar.specs.declared.rule.Sort.{Sort}
use Rattle.aw_grammar.specs.Declarations.{with_start_at}
use Rattle.aw_grammar.proofs.Added.{good_start, start_found, start_stands, names_after_start}
use Rattle.aw_grammar.proofs.VariableNames.{no_variables}
use Rattle.aw_grammar.proofs.grammar.Grammar.add_start.Goals as goal

pub place-place-requires : goal.place-place-requires
place-place-requires c =
    let g = c.args.self in
    ap (λ n. stands n g.sort_index) c.as_slice.ensures ∙ ap (λ ns. stands c.args.name.now ns) g.sort_names
    ∙ start_stands c.args.name.now g.sorts (start_found g.roles g.cons g.sorts g.rules c.args.name.now (sym c.in_default.ensures))

pub invariant_of-self : goal.invariant_of-self
invariant_of-self c =
    let g = c.args.self in
    let place_is : c.place-place.result ≡ number_of c.args.name.now (map (λ (s : Sort). s.name) g.sorts) =
    c.place-place.ensures.value ∙ ap (λ n. number_of n g.sort_index) c.as_slice.ensures ∙ ap (λ ns. number_of c.args.name.now ns) g.sort_names in
    let now : c.start_at.result ≡ with_start_at g.sorts (number_of c.args.name.now (map (λ (s : Sort). s.name) g.sorts)) =
    c.start_at.ensures ∙ ap (with_start_at g.sorts) place_is in
    record {
      role_names = g.role_names;
      con_names = g.con_names;
      sort_names = g.sort_names ∙ sym (names_after_start g.sorts c.args.name.now c.start_at.result c.place-place.result c.start_at.ensures);
      rule_names = g.rule_names;
      variables_fit = no_variables g.cons c.start_at.result g.rules c.requires.no_rules;
      well_formed = good_start g.roles g.cons g.sorts g.rules c.args.name.now c.start_at.result now c.requires.no_rules (sym c.in_default.ensures) g.well_formed;
    }
