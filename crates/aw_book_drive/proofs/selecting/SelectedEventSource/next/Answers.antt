use Rattle.std.proofs.Common.{Some, refl}
use Rattle.aw_book_drive.proofs.PassedOver.{selected-as}
use Rattle.aw_book_drive.proofs.selecting.SelectedEventSource.next.Goals as goal

pub returns-in-Some-clause-given : goal.returns-in-Some-clause-given
returns-in-Some-clause-given g c =
    let x = c.args.self.now in
    selected-as g.S.EventSource.gives x (record x { source = Some c.next_selected.new.source }) c.in-Some.source c.next_selected.new.source c.in-Some.is refl refl c.next_selected.result
    c.next_selected.ensures.given
