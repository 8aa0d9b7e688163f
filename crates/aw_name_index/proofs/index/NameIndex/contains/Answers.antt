use Rattle.std.proofs.Common.{is_some, ap, ◌∙◌}
use Rattle.aw_name_index.proofs.Lookups.{stands_is_placed}
use Rattle.aw_name_index.proofs.index.NameIndex.contains.Goals as goal

pub returns : goal.returns
returns c = c.is_some.ensures ∙ ap is_some c.find.ensures.place ∙ stands_is_placed c.args.name.now c.args.self.now
