use Rattle.aw_lex.specs.Lines.{lines_of}
use Rattle.aw_spec.proofs.KeptFaces.{read_faces}
use Rattle.aw_spec.proofs.KeptTypes.{read_types}
use Rattle.aw_spec.proofs.MadeFor.{read_made, read_in_range}
use Rattle.aw_spec.proofs.read.read_spec.Goals as goal

pub returns-clause-faces : goal.returns-clause-faces
returns-clause-faces c = read_faces c.read_lines.result (lines_of c.args.text.now) c.read_lines.ensures.exact

pub returns-clause-fits : goal.returns-clause-fits
returns-clause-fits c = read_types c.read_lines.result (lines_of c.args.text.now) c.read_lines.ensures.exact

pub returns-clause-types : goal.returns-clause-types
returns-clause-types c = read_made c.read_lines.result (read_types c.read_lines.result (lines_of c.args.text.now) c.read_lines.ensures.exact)

pub returns-clause-numbers : goal.returns-clause-numbers
returns-clause-numbers c = read_in_range c.read_lines.result (read_types c.read_lines.result (lines_of c.args.text.now) c.read_lines.ensures.exact)
