use Rattle.std.proofs.Common.{◌≡◌, Some, None, rules}
use Rattle.std.specs.HashMap.{get}
use Rattle.aw_name.specs.contracts.node.RefPartialEq.TheImpl as reference
use Rattle.aw_book_drive.proofs.Noting.{covers-find}
use Rattle.aw_book_drive.proofs.index.Index.find.Goals as goal

pub returns-in-Some-clause-none : goal.returns-in-Some-clause-none
returns-in-Some-clause-none c = λ g covers e k at.
    let found : Some c.as_slice.result.now ≡ get (reference.ghosts).eq c.args.self.now.numbers c.in_ok-subject.subject = search rules in
    c.find_among.ensures.none e k (covers-find c.args.self.now g c.args.messages.now c.args.m.now c.in_ok-subject.subject (Some c.as_slice.result.now) covers (c.in_ok-subject.ensures g) found k at) at

pub returns-clause-none : goal.returns-clause-none
returns-clause-none c = λ g covers e k at.
    let found : None ≡ get (reference.ghosts).eq c.args.self.now.numbers c.in_ok-subject.subject = search rules in
    elim (covers-find c.args.self.now g c.args.messages.now c.args.m.now c.in_ok-subject.subject None covers (c.in_ok-subject.ensures g) found k at) [ ]
