use Rattle.std.proofs.Common.{◌∙◌, sym, ap, length, arith}
use Rattle.std.proofs.lemmas.List.{length-map}
use Rattle.aw_grammar.specs.Declarations.{Declarations}
use Rattle.aw_grammar.specs.GrammarOf.{entry}
use Rattle.aw_spec.proofs.reader.Reader.new.Goals as goal

pub returns-clause-stage : goal.returns-clause-stage
returns-clause-stage c =
    let g = c.new-6.result in
    record {
      no_sorts = λ h. ap (λ (d : Declarations). length d.sorts) c.new-6.ensures;
      few_types = omega (arith, ap length c.new-3.ensures);
      no_rules = λ h. sym (length-map g.rules (entry g.sorts)) ∙ ap (λ (d : Declarations). length d.rules) c.new-6.ensures;
    }
