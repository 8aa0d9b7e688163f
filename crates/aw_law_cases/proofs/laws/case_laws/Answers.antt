use Rattle.aw_law_cases.proofs.CaseWorlds.{cases_do_not_meet, replies_are_kept}
use Rattle.aw_law_cases.proofs.Receiving.{site_keeps_cases}
use Rattle.aw_law_cases.proofs.laws.case_laws.Goals as goal

pub returns-clause-worlds : goal.returns-clause-worlds
returns-clause-worlds c = λ g. cases_do_not_meet g

pub returns-clause-replies : goal.returns-clause-replies
returns-clause-replies c = λ g. replies_are_kept g

pub returns-clause-sites : goal.returns-clause-sites
returns-clause-sites c = λ g. site_keeps_cases g
