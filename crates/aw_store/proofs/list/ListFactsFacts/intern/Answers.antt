use Rattle.aw_store.proofs.NameLemmas.{has_names-grown}
use Rattle.aw_store.proofs.list.ListFactsFacts.intern.Goals as goal

pub invariant_of-self : goal.invariant_of-self
invariant_of-self c =
    let s = c.args.self.now in
    record {
      sound = record {
        once = c.name_one.ensures.once;
        named = has_names-grown s.names.items c.name_one.new.names.items _ c.name_one.ensures.grows s.sound.named;
        few = s.sound.few;
        ready_named = has_names-grown s.names.items c.name_one.new.names.items _ c.name_one.ensures.grows s.sound.ready_named;
      };
      room = s.room;
    }
