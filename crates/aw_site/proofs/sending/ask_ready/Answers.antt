use Rattle.aw_site.proofs.Noting.{asked_one}
use Rattle.aw_site.proofs.sending.ask_ready.Goals as goal

pub returns-clause-asked : goal.returns-clause-asked
returns-clause-asked c = λ asked shows. asked_one c.args.subs.now c.ask.new.self c.args.r.now asked c.in-Ok.ensures.asked shows
