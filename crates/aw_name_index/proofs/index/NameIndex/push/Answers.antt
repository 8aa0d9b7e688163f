use Rattle.aw_name_index.proofs.Lookups.{name_pushed, no_place}
use Rattle.aw_name_index.proofs.index.NameIndex.push.Goals as goal

pub returns-clause-ok : goal.returns-clause-ok
returns-clause-ok c =
    name_pushed (λ name. name.items) c.args.name.now c.in_ok-to_vec.field-0 c.self.inside.names.keys c.insert.new.self.keys c.args.self.now
    (c.in_ok-to_vec.ensures.items_if_clones_equal (λ x y e. e)) c.self.view_is (no_place c.args.name.now c.args.self.now c.requires) c.in_ok-insert.ensures.keys
