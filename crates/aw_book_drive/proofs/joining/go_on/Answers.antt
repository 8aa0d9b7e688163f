use Rattle.std.proofs.Common.{◌≡◌, ◌<◌, true, false, length, Some, refl, sym, ap, ◌∙◌, subst, rules, arith}
use Rattle.std.proofs.lemmas.Option.{slice_get-get_or}
use Rattle.aw_book_drive.specs.Driving.{grammar_in, types_in}
use Rattle.aw_book_drive.specs.Joins.{TriesNext}
use Rattle.aw_book_drive.proofs.Going.{goes-none, goes-one}
use Rattle.aw_book_drive.proofs.joining.go_on.Goals as goal

pub returns-then-not-branch-clause-goes : goal.returns-then-not-branch-clause-goes
returns-then-not-branch-clause-goes g c = λ t d u firsts came moves s.
    let f = g.W.Workspace in
    let x = c.args.joined.now in
    let y = record x { driver = c.try_next.new.driver } in
    let within : c.args.role < length x.lanes.items = omega (arith, c.requires.set.many, c.requires.role) in
    let lane = c.index.result.now in
    let at = slice_get-get_or x.lanes.items c.args.role lane within ∙ ap Some (sym c.index.ensures) in
    let miss : c.in_ok-try_next.field-0 ≡ false = search rules in
    goes-none f g.S.EventSource.gives x y c.args.sources.now c.args.sources.now c.args.role lane at t d u firsts came moves s refl
    (λ v ms dr. subst (λ b. TriesNext f (types_in x.driver) (grammar_in x.driver) c.try_next.new.driver v ms c.args.role lane b) miss (c.in_ok-try_next.ensures.tries v ms dr))

pub returns-in_ok-put_next-in-Ok-clause-goes : goal.returns-in_ok-put_next-in-Ok-clause-goes
returns-in_ok-put_next-in-Ok-clause-goes g c = λ t d u firsts came moves s.
    let f = g.W.Workspace in
    let x = c.args.joined.now in
    let y = record x { driver = c.try_next.new.driver; lanes = c.put_next.new.lanes } in
    let within : c.args.role < length x.lanes.items = omega (arith, c.requires.set.many, c.requires.role) in
    let lane = c.index.result.now in
    let at = slice_get-get_or x.lanes.items c.args.role lane within ∙ ap Some (sym c.index.ensures) in
    let hit : c.in_ok-try_next.field-0 ≡ true = search rules in
    goes-one f g.S.EventSource.gives x y c.args.sources.now c.read_on.new.sources c.args.role lane at t d u firsts came moves s c.requires.role c.requires.set.many c.in-Ok.next c.in-Ok.ensures.reads
    (c.in_ok-put_next-in-Ok.ensures.put lane at)
    (λ v ms dr. subst (λ b. TriesNext f (types_in x.driver) (grammar_in x.driver) c.try_next.new.driver v ms c.args.role lane b) hit (c.in_ok-try_next.ensures.tries v ms dr))
