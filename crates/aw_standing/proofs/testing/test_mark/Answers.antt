use Rattle.aw_standing.proofs.testing.test_mark.Goals as goal

pub returns-clause-tested : goal.returns-clause-tested
returns-clause-tested g c m here = record {
  stands = c.test_at-stands.result;
  told = λ h of. c.test_at-stands.ensures.told h m of here;
  lacks = c.test_at-stands.ensures.lacks;
  live = c.test_at-stands.ensures.live;
  set = c.set_mark.ensures.set m here;
}
