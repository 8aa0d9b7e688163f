use Rattle.std.proofs.Common.{◌≡◌, ◌++◌, sym, subst, Option}
use Rattle.std.proofs.lemmas.Result.{on_ok_weaker}
use Rattle.aw_typed.specs.declared.data.Carry.{Carry}
use Rattle.aw_spec.specs.TypeLines.{type_names}
use Rattle.aw_spec_writer.specs.LineTexts.{text_of_lines}
use Rattle.aw_spec_writer.specs.SpecLines.{carry_line}
use Rattle.aw_spec_writer.proofs.TypeTexts.{carry_added}
use Rattle.aw_spec_writer.proofs.types.push_carry.Goals as goal

pub returns : goal.returns
returns c =
    let all = type_names c.args.t.now in
    let sort = c.args.sort.now in
    on_ok_weaker c.push_bytes-5.result
    (λ last.
    subst (λ (o : Option Carry). c.push_bytes-5.new.self ≡ c.args.text.now ++ text_of_lines (carry_line all sort o)) (sym c.in-Some.is)
    (carry_added all sort c.in-Some.carry c.args.text.now _ _ _ _ _ _ _ c.in_ok-push_bytes.ensures.ok c.in_ok-push_bytes-2.ensures.ok
    c.in_ok-push_bytes-3.ensures.ok c.in_ok-push_type_names.ensures c.in_ok-push_bytes-4.ensures.ok c.in_ok-push_type_names-2.ensures last))
    c.push_bytes-5.ensures.ok
