use Rattle.std.proofs.Common.{◌∙◌, ◌++◌, ◌∷◌, [], map, sym, ap}
use Rattle.std.proofs.lemmas.List.{map-append}
use Rattle.aw_name_index.specs.Places.{stands}
use Rattle.aw_grammar.specs.declared.rule.Rule.{Rule}
use Rattle.aw_grammar.specs.Declarations.{Entry, with_rule}
use Rattle.aw_grammar.specs.Kinds.{rule_kind}
use Rattle.aw_grammar.specs.GrammarOf.{declarations_of}
use Rattle.aw_grammar.specs.Written.{rule_of_raw}
use Rattle.aw_grammar.proofs.GoodRule.{good_rule, new_name, declares_more, no_memory}
use Rattle.aw_grammar.proofs.VariableNames.{more_variables}
use Rattle.aw_grammar.proofs.grammar.Grammar.add_rule.Goals as goal

pub added-requires : goal.added-requires
added-requires c =
    let g = c.args.self in let w = rule_of_raw c.args.rule in
    ap (λ n. stands n g.rule_index) (ap (λ (e : Entry). e.name) c.in-Ok.ensures.1) ∙ ap (stands w.name) g.rule_names
    ∙ new_name g.roles g.cons g.sorts g.rules w c.in-Ok.ensures.0

pub invariant_of-self : goal.invariant_of-self
invariant_of-self c =
    let g = c.args.self in let r = c.in-Ok.made in
    let added = c.in_ok-rules.ensures.items in
    record {
      role_names = g.role_names;
      con_names = g.con_names;
      sort_names = g.sort_names;
      rule_names =
          c.in_ok-rules.ensures.index ∙ ap (λ ns. ns ++ r.name ∷ []) g.rule_names
          ∙ sym (ap (map (λ (u : Rule). u.name)) added ∙ map-append (λ (u : Rule). u.name) g.rules (r ∷ []));
      variables_fit = more_variables g.roles g.cons g.sorts g.rules (rule_of_raw c.args.rule) r c.in_ok-rules.rules added c.in-Ok.ensures.1
          c.in-Ok.ensures.0 c.requires.contents c.requires.variables g.variables_fit;
      well_formed = good_rule g.roles g.cons g.sorts g.rules (rule_of_raw c.args.rule) r c.in_ok-rules.rules added c.in-Ok.ensures.1 c.requires.named
          c.requires.contents c.in-Ok.ensures.0 g.well_formed;
    }

pub returns-in_err-rules : goal.returns-in_err-rules
returns-in_err-rules c =
    let d = declarations_of c.args.self in let w = rule_of_raw c.args.rule in
    no_memory (rule_kind d w) (with_rule d w) c.from_residual.result c.from_residual.ensures.1

pub returns : goal.returns
returns c =
    let g = c.args.self in let w = rule_of_raw c.args.rule in
    (c.in-Ok.ensures.0, declares_more g.roles g.cons g.sorts g.rules w c.in-Ok.made c.in_ok-rules.rules c.in_ok-rules.ensures.items c.in-Ok.ensures.1)
