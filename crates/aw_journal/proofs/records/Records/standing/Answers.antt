use Rattle.std.proofs.Common.{sym, subst}
use Rattle.aw_journal.specs.Pieces.{Holds}
use Rattle.aw_journal.specs.Records.{IsAtEnd}
use Rattle.aw_journal.proofs.Searches.{ending_of}
use Rattle.aw_journal.proofs.records.Records.standing.Goals as goal

pub returns-clause-standing : goal.returns-clause-standing
returns-clause-standing g c file told before =
    let r = c.self.inside in
    let at = subst (IsAtEnd file) (sym c.self.view_is) before in
    let holds : Holds file r.reader = record { below = at.own.below; within = at.own.within; same = at.own.same } in
    ending_of file _ r.headed c.find_ending.result at.tail at.headed (c.find_ending.ensures.standing file told holds at.place)
