use Rattle.std.proofs.Common.{refl, ◌∙◌, arith}
use Rattle.aw_book_drive.proofs.Keeping.{set-on, uses-on}
use Rattle.aw_book_drive.proofs.Passing.{pass-more, pass-all, pass-none}
use Rattle.aw_book_drive.proofs.joining.pass.Goals as goal

pub go_far-requires-clause-set : goal.go_far-requires-clause-set
go_far-requires-clause-set g c =
    let i = c.loop-role.invariant in
    set-on c.args.joined.now c.loop-role.joined c.args.sources.now c.loop-role.sources i.accepted i.typed i.lanes i.many c.requires.set

pub loop-role-init : goal.loop-role-init
loop-role-init g c = record {
  accepted = refl;
  typed = refl;
  loads = refl;
  lanes = refl;
  many = refl;
  told = refl;
  goes = λ t d u firsts came moves s. pass-none g.W.Workspace g.S.EventSource.gives t d firsts c.args.joined.now c.args.sources.now came moves s;
}

pub loop-role-preserved : goal.loop-role-preserved
loop-role-preserved g c =
    let i = c.loop-role.invariant in
    let x = c.loop-role.joined in
    let y = c.go_far.new.joined in
    record {
      accepted = c.go_far.ensures.accepted ∙ i.accepted;
      typed = c.go_far.ensures.typed ∙ i.typed;
      loads = c.go_far.ensures.loads ∙ i.loads;
      lanes = c.go_far.ensures.lanes ∙ i.lanes;
      many = c.go_far.ensures.many ∙ i.many;
      told = c.in_ok-moved.ensures.told ∙ i.told;
      goes = λ t d u firsts came moves s.
          pass-more g.W.Workspace g.S.EventSource.gives t d firsts x y c.loop-role.sources c.go_far.new.sources came moves c.loop-role.role c.loop-role.moved c.in_ok-moved.field-0
          (i.goes t d u firsts came moves s)
          (λ more steps st. c.in_ok-moved.ensures.goes t d (uses-on c.args.joined.now.driver x.driver t d i.accepted i.typed u) firsts more steps st)
          c.in_ok-moved.ensures.still;
    }

pub returns-clause-goes : goal.returns-clause-goes
returns-clause-goes g c = λ t d u firsts came moves s.
    let i = c.loop-role.invariant in
    pass-all g.W.Workspace g.S.EventSource.gives t d firsts c.loop-role.joined c.loop-role.sources came moves c.loop-role.role _ c.loop-role.moved (omega (arith, c.requires.set.many, i.many, c.loop-role-test.false, c.len-role-end.ensures))
    (i.goes t d u firsts came moves s)
