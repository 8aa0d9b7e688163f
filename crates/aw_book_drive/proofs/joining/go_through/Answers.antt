use Rattle.std.proofs.Common.{◌≡◌, true, false, refl, ◌∙◌, subst, length, rules}
use Rattle.aw_book_drive.specs.Joins.{Goes, AreBlocked}
use Rattle.aw_book_drive.proofs.Keeping.{set-on, uses-on}
use Rattle.aw_book_drive.proofs.Passing.{through-more, through-ends}
use Rattle.aw_book_drive.proofs.joining.go_through.Goals as goal

pub pass-requires : goal.pass-requires
pass-requires g c =
    let i = c.loop-number.invariant in
    record { set = set-on c.args.joined.now c.loop-number.joined c.args.sources.now c.loop-number.sources i.accepted i.typed i.lanes i.many c.requires.set }

pub loop-number-init : goal.loop-number-init
loop-number-init g c = record {
  accepted = refl;
  typed = refl;
  loads = refl;
  lanes = refl;
  many = refl;
  told = refl;
  goes = λ t d u firsts came moves s. (came, moves, s);
}

pub loop-number-preserved : goal.loop-number-preserved
loop-number-preserved g c =
    let i = c.loop-number.invariant in
    let x = c.loop-number.joined in
    let y = c.pass.new.joined in
    let new = c.pass.new.sources in
    let yes : c.in_ok-pass.field-0 ≡ true = search rules in
    record {
      accepted = c.pass.ensures.accepted ∙ i.accepted;
      typed = c.pass.ensures.typed ∙ i.typed;
      loads = c.pass.ensures.loads ∙ i.loads;
      lanes = c.pass.ensures.lanes ∙ i.lanes;
      many = c.pass.ensures.many ∙ i.many;
      told = c.in_ok-pass.ensures.told ∙ i.told;
      goes = λ t d u firsts came moves s.
          through-more g.W.Workspace g.S.EventSource.gives t d firsts x y c.loop-number.sources new (i.goes t d u firsts came moves s)
          (λ more steps st. subst (λ b. Goes g.W.Workspace g.S.EventSource.gives t d firsts y new more steps (AreBlocked t d y.lanes.items steps (length new)) b) yes
          (c.in_ok-pass.ensures.goes t d (uses-on c.args.joined.now.driver x.driver t d i.accepted i.typed u) firsts more steps st));
    }

pub returns-then-not-branch-clause-goes : goal.returns-then-not-branch-clause-goes
returns-then-not-branch-clause-goes g c = λ t d u firsts came moves s.
    let i = c.loop-number.invariant in
    let x = c.loop-number.joined in
    let y = c.pass.new.joined in
    let new = c.pass.new.sources in
    let no : c.in_ok-pass.field-0 ≡ false = search rules in
    through-ends g.W.Workspace g.S.EventSource.gives t d firsts x y c.loop-number.sources new (i.goes t d u firsts came moves s)
    (λ more steps st. subst (λ b. Goes g.W.Workspace g.S.EventSource.gives t d firsts y new more steps (AreBlocked t d y.lanes.items steps (length new)) b) no
    (c.in_ok-pass.ensures.goes t d (uses-on c.args.joined.now.driver x.driver t d i.accepted i.typed u) firsts more steps st))
