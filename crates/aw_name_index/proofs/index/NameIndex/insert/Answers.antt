use Rattle.std.proofs.Common.{◌∙◌, not, ap}
use Rattle.aw_name_index.proofs.Lookups.{stands_by_keys, name_inserted}
use Rattle.aw_name_index.proofs.index.NameIndex.insert.Goals as goal

pub returns-clause-told : goal.returns-clause-told
returns-clause-told c =
    c.in_ok-place.ensures.added
    ∙ ap not (stands_by_keys (λ name. name.items) c.args.name.now c.in_ok-to_vec.field-0 c.self.inside.names.keys c.args.self.now
    (c.in_ok-to_vec.ensures.items_if_clones_equal (λ x y e. e)) c.self.view_is)

pub returns-clause-ok : goal.returns-clause-ok
returns-clause-ok c =
    name_inserted (λ name. name.items) c.args.name.now c.in_ok-to_vec.field-0 c.self.inside.names.keys c.insert_full.new.self.keys c.args.self.now
    (c.in_ok-to_vec.ensures.items_if_clones_equal (λ x y e. e)) c.self.view_is c.in_ok-place.ensures.keys
