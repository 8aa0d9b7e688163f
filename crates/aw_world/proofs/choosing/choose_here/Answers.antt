use Rattle.aw_world.proofs.choosing.choose_here.Goals as goal

pub returns-clause-chose : goal.returns-clause-chose
returns-clause-chose g c = record {
  answer = c.in_ok-answer.ensures.answer;
  site = c.in_ok-answer.ensures.site;
  messages = c.in_ok-answer.ensures.sent;
}
