use Rattle.std.proofs.Common.{ap, sym, ◌∙◌}
use Rattle.aw_lex.specs.Lines.{lines_of}
use Rattle.aw_spec.specs.Views.{spec_seen}
use Rattle.aw_face.specs.Faces.{face_fault}
use Rattle.table_language.proofs.inputs.push_verdict.Goals as goal

pub push_spec_verdict-pushed-requires-clause-faces : goal.push_spec_verdict-pushed-requires-clause-faces
push_spec_verdict-pushed-requires-clause-faces c =
    let spec = c.in-Ok.spec in
    (c.read_fits.ensures (lines_of c.args.input.now) (spec_seen spec) spec.lines spec.loads c.in-Ok.ensures.exact
    (ap (λ g. face_fault g spec.faces.offers spec.faces.uses) (sym c.in-Ok.ensures.grammar) ∙ c.in-Ok.ensures.faces)).0
