use Rattle.std.proofs.Common.{◌≤◌, arith}
use Rattle.std.proofs.Math.Logic.{∥∥₁_elim}
use Rattle.std.proofs.lemmas.List.{length-map}
use Rattle.std.proofs.lemmas.Option.{slice_get_within}
use Rattle.std.specs.Coded.{le_prop}
use Rattle.aw_grammar.specs.GrammarOf.{grammar_of}
use Rattle.aw_grammar.specs.declared.rule.Rule.{Rule}
use Rattle.aw_grammar.proofs.Fits.{if_found}
use Rattle.aw_face.proofs.RuleSteps.{few_children}
use Rattle.aw_spec_writer.proofs.rules.declared_rule.Goals as goal

pub returns-clause-few : goal.returns-clause-few
returns-clause-few c = few_children (grammar_of c.args.g.now) c.args.g.now.sorts c.rule.result c.rule.ensures.fits

pub returns-clause-below : goal.returns-clause-below
returns-clause-below c =
    let g = c.args.g.now in
    if_found (λ r. c.args.number ≤ 1023) c.rule.result g.rules c.args.number c.rule.ensures.value
    (λ r e. ∥∥₁_elim g.well_formed le_prop (λ w. omega (arith, w.few_rules, length-map g.rules (λ (k : Rule). k.name), slice_get_within g.rules c.args.number r e)))
