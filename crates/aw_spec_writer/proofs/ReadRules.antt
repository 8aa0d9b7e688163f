-- The rules of a specification that was read.
use Rattle.std.proofs.Common.{◌≡◌, ap}
use Rattle.std.specs.Prelude.{Result, Ok, Err, IfOk}
use Rattle.aw_spec.specs.declared.fault.SpecFault.{SpecFault}
use Rattle.aw_spec.specs.declared.spec_text.SpecText.{SpecText}
use Rattle.aw_spec.specs.Reading.{Spec}
use Rattle.aw_spec.specs.Views.{spec_seen}
use Rattle.aw_spec_writer.proofs.BackRules.{same_rules}

-- a specification that says the same as another has the same rules
pub read_rules : (r : Result SpecText SpecFault) (s : SpecText) → IfOk r (λ t. spec_seen t ≡ spec_seen s) → IfOk r (λ t. t.grammar.rules ≡ s.grammar.rules)
read_rules (Ok t) s e = same_rules t.grammar s.grammar (ap (λ (x : Spec). x.declared) e)
read_rules (Err f) s e = tt
