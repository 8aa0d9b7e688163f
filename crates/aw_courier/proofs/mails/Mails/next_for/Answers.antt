use Rattle.std.proofs.Common.{sym}
use Rattle.aw_courier.proofs.MailLemmas.{next-same, next-is}
use Rattle.aw_courier.proofs.mails.Mails.next_for.Goals as goal

pub returns-clause-next : goal.returns-clause-next
returns-clause-next c =
    next-is c.args.self.now c.self.inside.queues.items c.self.inside.places.items c.args.role c.args.room c.index_mut.result.now c.next_up.new.self
    c.next_up.result (sym c.self.view_is) c.requires c.index_mut.ensures.value c.next_up.ensures

pub returns-clause-same : goal.returns-clause-same
returns-clause-same c = next-same c.args.self.now c.self.inside.queues.items c.self.inside.places.items c.args.role c.next_up.new.self (sym c.self.view_is) c.requires
