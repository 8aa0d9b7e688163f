use Rattle.std.proofs.Common.{◌-◌, ◌<◌, ap, sym, ◌∙◌, arith, subst, map}
use Rattle.aw_choice.specs.ChoiceView.{choice_of}
use Rattle.aw_grammar.specs.GrammarOf.{grammar_of}
use Rattle.aw_accept.specs.declared.accepted.Accepted.{Accepted}
use Rattle.aw_law_sites.specs.Worlds.{count_set}
use Rattle.aw_law_sites.specs.Bounds.{bound_of}
use Rattle.aw_world.specs.Shown.{Shows}
use Rattle.aw_list.proofs.Fronts.{on_err_held as on_err}
use Rattle.aw_world.proofs.Settles.{fewer_left, one_more, settled_on, settled_whole}
use Rattle.aw_world.proofs.settling.settle.Goals as goal

pub loop-number-smaller : goal.loop-number-smaller
loop-number-smaller g c =
    let w = c.loop-number.world in
    let x = c.deliver_one.new.world in
    subst (λ (a : Accepted). bound_of (grammar_of a.grammar) (map choice_of x.taken.items) - count_set x.marks.delivered.items < bound_of
    (grammar_of w.accepted.now.grammar) (map choice_of w.taken.items) - count_set w.marks.delivered.items)
    (sym c.deliver_one.ensures.accepted)
    (fewer_left g.W.Workspace w x c.in-Some.number (sym c.quiet.ensures ∙ c.in-Some.is) c.in_ok-deliver_one.ensures.stepped)

pub loop-number-preserved : goal.loop-number-preserved
loop-number-preserved g c =
    let w = c.loop-number.world in
    let x = c.deliver_one.new.world in
    let i = c.loop-number.invariant in
    let first = sym c.quiet.ensures ∙ c.in-Some.is in
    let o = one_more g.W.Workspace w x c.in-Some.number first c.in_ok-deliver_one.ensures.stepped in
    record {
      accepted = c.deliver_one.ensures.accepted ∙ i.accepted;
      loads = c.deliver_one.ensures.loads ∙ i.loads;
      counts = omega (arith, i.counts, o.0, o.1);
      settled = settled_on g.W.Workspace w x c.in-Some.number first c.in_ok-deliver_one.ensures.stepped
          (grammar_of c.args.world.now.accepted.now.grammar) (ap (λ (a : Accepted). grammar_of a.grammar) i.accepted)
          (λ v. Shows g.W.Workspace c.args.world.now v) (count_set c.args.world.now.marks.delivered.items) i.counts i.settled;
    }

pub returns-clause-settled : goal.returns-clause-settled
returns-clause-settled g c = λ v s.
    let w = c.loop-number.world in
    let i = c.loop-number.invariant in
    settled_whole g.W.Workspace w (grammar_of c.args.world.now.accepted.now.grammar) (ap (λ (a : Accepted). grammar_of a.grammar) i.accepted) (count_set c.args.world.now.marks.delivered.items) v
    (sym c.quiet.ensures ∙ c.in_default.is) (i.settled v s)

pub returns-in_err-deliver_one-clause-some : goal.returns-in_err-deliver_one-clause-some
returns-in_err-deliver_one-clause-some g c =
    let made = count_set c.loop-number.world.marks.delivered.items - count_set c.args.world.now.marks.delivered.items in
    on_err c.from_residual.result (λ v s. (made, c.in_err-deliver_one.ensures.err _ (c.loop-number.invariant.settled v s)))
