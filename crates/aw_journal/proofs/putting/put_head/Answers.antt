use Rattle.std.specs.Prelude.{◌≡◌, ℕ, List, [], ◌∷◌, ◌++◌}
use Rattle.std.proofs.Common.{refl, ◌∙◌, subst}
use Rattle.aw_disk.specs.Disk.{LeavesOnly}
use Rattle.aw_journal.specs.Format.{head}
use Rattle.aw_journal.specs.Journal.{IsAround, StandsAt, behind_gate}
use Rattle.aw_journal.specs.Opens.{HasEvents}
use Rattle.aw_journal.proofs.Heads.{around_head, no_events}
use Rattle.aw_journal.proofs.Moments.{runs_on, weaker}
use Rattle.aw_journal.proofs.putting.put_head.Goals as goal

pub returns-in-Done-clause-done : goal.returns-in-Done-clause-done
returns-in-Done-clause-done g c is told =
    let D = g.D.Disk in
    let new = c.put_record.new.disk in
    let closed = c.in-Done.ensures.done refl told in (
      closed.rest,
      subst (λ (b : List ℕ). StandsAt D.tells D.seen D.may_leave new 0 [] (behind_gate b closed.rest) 1) c.deref.ensures.value
          (c.put_record.ensures.done is [] closed.rest closed.shut closed.stands),
    )

pub returns-in-Done-clause-any_moment : goal.returns-in-Done-clause-any_moment
returns-in-Done-clause-any_moment g c told role text fits is =
    let D = g.D.Disk in
    let old = c.args.disk.now in
    let mid = c.close_first.new.disk in
    let new = c.put_record.new.disk in
    let closed = c.in-Done.ensures.done refl told in
    let P = HasEvents role text [] in
    let bytes : c.deref.result.now ≡ head role text ++ 0 ∷ [] = c.deref.ensures.value ∙ is in
    let begun = weaker D.moment D.left_since old mid _ P (c.close_first.ensures.any_moment told) (no_events role text) in
    let any = c.put_record.ensures.any_moment [] closed.rest closed.shut closed.stands in
    let any_bytes = subst (λ (b : List ℕ). LeavesOnly D.moment D.left_since mid new (IsAround [] closed.shut (behind_gate b closed.rest))) bytes any in
    runs_on D.moment D.left_since old mid new P _ begun any_bytes (λ f left. around_head role text closed.rest f closed.shut fits closed.closed left)

pub returns-clause-any_moment : goal.returns-clause-any_moment
returns-clause-any_moment g c told role text fits is =
    let D = g.D.Disk in
    weaker D.moment D.left_since c.args.disk.now c.close_first.new.disk _ (HasEvents role text []) (c.close_first.ensures.any_moment told) (no_events role text)
