use Rattle.aw_name_index.proofs.Lookups.{is_placed}
use Rattle.aw_name_index.proofs.index.NameIndex.place.Goals as goal

pub unwrap-requires : goal.unwrap-requires
unwrap-requires c = is_placed c.args.name.now c.args.self.now c.find.result c.find.ensures.place c.requires
