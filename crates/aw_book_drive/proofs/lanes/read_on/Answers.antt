use Rattle.std.proofs.Common.{◌≡◌, Err, get_or, rules}
use Rattle.aw_book_drive.specs.declared.source.SourceFault.TheVariants as one
use Rattle.std.proofs.lemmas.Option.{slice_get-get_or}
use Rattle.aw_book_drive.proofs.Counting.{reads-well, reads-not, reads-little}
use Rattle.aw_book_drive.proofs.lanes.read_on.Goals as goal

pub returns-in-Ok-clause-told : goal.returns-in-Ok-clause-told
returns-in-Ok-clause-told g c =
    let d = c.index-sources-role.result in
    let x = get_or c.args.sources.now c.args.role d in
    reads-well g.S.EventSource.faults c.args.sources.now c.args.role x c.next.new.self (slice_get-get_or c.args.sources.now c.args.role d c.requires)
    c.next.result c.next.ensures.counts c.in-Ok.found c.in-Ok.is

pub returns-in-Err-Unread-clause-told : goal.returns-in-Err-Unread-clause-told
returns-in-Err-Unread-clause-told g c =
    let d = c.index-sources-role.result in
    let x = get_or c.args.sources.now c.args.role d in
    let is : c.next.result ≡ Err one.Unread = search rules in
    reads-not g.S.EventSource.faults c.args.sources.now c.args.role x c.next.new.self (slice_get-get_or c.args.sources.now c.args.role d c.requires)
    c.next.result c.next.ensures.counts is

pub returns-in-Err-NoMemory-clause-told : goal.returns-in-Err-NoMemory-clause-told
returns-in-Err-NoMemory-clause-told g c =
    let d = c.index-sources-role.result in
    let x = get_or c.args.sources.now c.args.role d in
    let is : c.next.result ≡ Err one.NoMemory = search rules in
    reads-little g.S.EventSource.faults c.args.sources.now c.args.role x c.next.new.self (slice_get-get_or c.args.sources.now c.args.role d c.requires)
    c.next.result c.next.ensures.counts is
