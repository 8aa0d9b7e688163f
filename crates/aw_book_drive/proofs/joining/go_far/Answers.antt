use Rattle.std.proofs.Common.{◌≡◌, true, false, ◌∙◌, subst, rules, arith}
use Rattle.aw_book_drive.specs.Joins.{Goes, IsBlocked}
use Rattle.aw_book_drive.proofs.Keeping.{set-on, uses-on}
use Rattle.aw_book_drive.proofs.Passing.{far-ends, far-more}
use Rattle.aw_book_drive.proofs.joining.go_far.Goals as goal

pub go_on-requires-clause-set : goal.go_on-requires-clause-set
go_on-requires-clause-set g c =
    let i = c.loop-number.invariant in
    set-on c.args.joined.now c.loop-number.joined c.args.sources.now c.loop-number.sources i.accepted i.typed i.lanes i.many c.requires.set

pub returns-then-not-branch-clause-goes : goal.returns-then-not-branch-clause-goes
returns-then-not-branch-clause-goes g c = λ t d u firsts came moves s.
    let f = g.W.Workspace in
    let gives = g.S.EventSource.gives in
    let x = c.loop-number.joined in
    let i = c.loop-number.invariant in
    let y = c.go_on.new.joined in
    let new = c.go_on.new.sources in
    let no : c.in_ok-go_on.field-0 ≡ false = search rules in
    far-ends f gives t d firsts x y c.loop-number.sources new came moves c.args.role c.loop-number.number (i.none t d u firsts came moves s) (i.some t d u firsts came moves s)
    (λ more steps st. subst (λ b. Goes f gives t d firsts y new more steps (IsBlocked t d y.lanes.items steps c.args.role) b) no
    (c.in_ok-go_on.ensures.goes t d (uses-on c.args.joined.now.driver x.driver t d i.accepted i.typed u) firsts more steps st))

pub loop-number-preserved : goal.loop-number-preserved
loop-number-preserved g c =
    let f = g.W.Workspace in
    let gives = g.S.EventSource.gives in
    let x = c.loop-number.joined in
    let i = c.loop-number.invariant in
    let y = c.go_on.new.joined in
    let new = c.go_on.new.sources in
    let yes : c.in_ok-go_on.field-0 ≡ true = search rules in
    record {
      accepted = c.go_on.ensures.accepted ∙ i.accepted;
      typed = c.go_on.ensures.typed ∙ i.typed;
      loads = c.go_on.ensures.loads ∙ i.loads;
      lanes = c.go_on.ensures.lanes ∙ i.lanes;
      many = c.go_on.ensures.many ∙ i.many;
      told = c.in_ok-go_on.ensures.told ∙ i.told;
      still = λ e. absurd (omega (arith, e));
      none = λ t d u firsts came moves s e. absurd (omega (arith, e));
      some = λ t d u firsts came moves s l.
          far-more f gives t d firsts x y c.loop-number.sources new came moves c.loop-number.number (i.none t d u firsts came moves s) (i.some t d u firsts came moves s)
          (λ more steps st. subst (λ b. Goes f gives t d firsts y new more steps (IsBlocked t d y.lanes.items steps c.args.role) b) yes
          (c.in_ok-go_on.ensures.goes t d (uses-on c.args.joined.now.driver x.driver t d i.accepted i.typed u) firsts more steps st));
    }
