use Rattle.std.proofs.Common.{◌∙◌, ap, is_some}
use Rattle.aw_name_index.proofs.Lookups.{stands_is_placed}
use Rattle.aw_spec.specs.TypeLines.{type_names}
use Rattle.aw_spec.proofs.type_lines.is_type.Goals as goal

pub returns : goal.returns
returns c = c.is_some.ensures ∙ ap is_some c.type_named.ensures ∙ stands_is_placed c.args.name.now (type_names c.args.types.now)
