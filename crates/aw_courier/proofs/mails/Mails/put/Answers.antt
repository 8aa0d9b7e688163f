use Rattle.std.proofs.Common.{sym}
use Rattle.aw_courier.proofs.MailLemmas.{put-queues}
use Rattle.aw_courier.proofs.mails.Mails.put.Goals as goal

pub returns-clause-queues : goal.returns-clause-queues
returns-clause-queues c =
    put-queues c.args.self.now c.self.inside.queues.items c.self.inside.places.items c.args.to c.index_mut.result.now c.push.new.self c.args.frame
    (sym c.self.view_is) c.requires.to c.index_mut.ensures.value c.in_ok-push.ensures
