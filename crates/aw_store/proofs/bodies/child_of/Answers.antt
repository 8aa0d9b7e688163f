use Rattle.std.proofs.Common.{◌<◌, Some, length, ap, sym, ◌∙◌, subst, arith}
use Rattle.aw_store.specs.Equations.{mentions}
use Rattle.aw_store.specs.EquationView.{body_of}
use Rattle.aw_store.specs.NamedRefs.{all_named, con_parts}
use Rattle.aw_store.specs.declared.equation.Body.{Body}
use Rattle.aw_store.proofs.NameLemmas.{named_at}
use Rattle.aw_store.proofs.bodies.child_of.Goals as goal

pub place_of-requires : goal.place_of-requires
place_of-requires c =
    let ns = c.args.names.now in
    let e = ap (λ b. all_named ns (mentions (body_of b))) (sym c.in-Con.is) ∙ c.requires.named in
    let w : c.args.k < length c.in-Con.parts = subst (λ (b : Body). c.args.k < length (con_parts (Some (body_of b)))) c.in-Con.is c.requires.within in
    let l : c.from.result < length c.as_slice.result.now = omega (arith, w, c.from.ensures, ap length c.as_slice.ensures) in
    named_at ns c.as_slice.result.now c.from.result c.index-as_slice-from.result l c.index-as_slice-from.is (ap (all_named ns) c.as_slice.ensures ∙ e)
