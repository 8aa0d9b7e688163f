use Rattle.std.proofs.Common.{◌∙◌, ◌<◌, sym, ap, cond, Some, None, length, arith}
use Rattle.std.proofs.lemmas.Bool.{lt-leb}
use Rattle.aw_name_index.specs.Places.{stands}
use Rattle.aw_spec.specs.declared.fault.SpecKind.TheVariants.{Limit, Double}
use Rattle.aw_spec.specs.TypeLines.{type_names}
use Rattle.aw_spec.proofs.draft.Draft.type_fault.Goals as goal

pub returns-then-is_type : goal.returns-then-is_type
returns-then-is_type c =
    let t = c.args.self.now.types in
    let few : length t.names < 256 = omega (arith, c.len.ensures, c.if-len-ge256.false) in
    let stands_so = ap (λ name. stands name (type_names t)) (sym c.as_slice.ensures) ∙ sym c.if-is_type.ensures in
    sym (ap (λ b. cond b (Some Limit) (cond (stands c.args.name.now (type_names t)) (Some Double) None)) (lt-leb 256 (length t.names) few) ∙ ap (λ b. cond b (Some Double) None) stands_so)

pub returns : goal.returns
returns c =
    let t = c.args.self.now.types in
    let few : length t.names < 256 = omega (arith, c.len.ensures, c.if-len-ge256.false) in
    let stands_not = ap (λ name. stands name (type_names t)) (sym c.as_slice.ensures) ∙ sym c.if-is_type.ensures in
    sym (ap (λ b. cond b (Some Limit) (cond (stands c.args.name.now (type_names t)) (Some Double) None)) (lt-leb 256 (length t.names) few) ∙ ap (λ b. cond b (Some Double) None) stands_not)
