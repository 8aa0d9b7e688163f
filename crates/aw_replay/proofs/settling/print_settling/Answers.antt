use Rattle.std.proofs.Common.{rules, ◌≡◌, suc, ◌-◌, ◌<◌, ◌++◌, ap, sym, ◌∙◌, refl, arith, subst, map, inl, inr, codes, Ok}
use Rattle.std.specs.Fmt.{decimal}
use Rattle.std.proofs.lemmas.Result.{on_ok_weaker}
use Rattle.aw_choice.specs.ChoiceView.{choice_of}
use Rattle.aw_choice.specs.Events as E
use Rattle.aw_grammar.specs.GrammarOf.{grammar_of, words_of}
use Rattle.aw_accept.specs.declared.accepted.Accepted.{Accepted}
use Rattle.aw_law_sites.specs.Worlds as V
use Rattle.aw_law_sites.specs.Transcripts.{move_lines, settle_lines}
use Rattle.aw_law_sites.specs.Worlds.{count_set}
use Rattle.aw_law_sites.specs.Bounds.{bound_of}
use Rattle.aw_out.specs.Report.{Prints}
use Rattle.aw_out.proofs.Printing.{Prints-second}
use Rattle.aw_world.specs.Shown.{Shows}
use Rattle.aw_world.proofs.Lines.{stops}
use Rattle.aw_list.proofs.Fronts.{on_err_held as on_err}
use Rattle.aw_law_worlds.proofs.Settling.{settle_more, settle_taken}
use Rattle.aw_world.proofs.Settles.{room_left, fewer_left, one_more, settled_on, settled_whole, bounded}
use Rattle.aw_replay.specs.Telling.{SettlesSome, DoesSome}
use Rattle.aw_replay.proofs.Arms.{some_settled}
use Rattle.aw_replay.proofs.LineParts.{lines_more, lines_end}
use Rattle.aw_replay.proofs.settling.print_settling.Goals as goal

pub loop-number-smaller : goal.loop-number-smaller
loop-number-smaller g c =
    let w = c.loop-number.world in
    let x = c.print_delivery.new.world in
    subst (λ (a : Accepted). bound_of (grammar_of a.grammar) (map choice_of x.taken.items) - count_set x.marks.delivered.items < bound_of
    (grammar_of w.accepted.now.grammar) (map choice_of w.taken.items) - count_set w.marks.delivered.items)
    (sym c.print_delivery.ensures.accepted)
    (fewer_left g.W.Workspace w x c.in-Some.number (sym c.quiet.ensures ∙ c.in-Some.is) c.in_ok-print_delivery.ensures.stepped)

pub loop-number-preserved : goal.loop-number-preserved
loop-number-preserved g c =
    let w = c.loop-number.world in
    let x = c.print_delivery.new.world in
    let i = c.loop-number.invariant in
    let k = c.in-Some.number in
    let first = sym c.quiet.ensures ∙ c.in-Some.is in
    let o = one_more g.W.Workspace w x k first c.in_ok-print_delivery.ensures.stepped in
    let d = c.args.world.now.accepted.now.grammar in
    let p = grammar_of d in
    let m = count_set w.marks.delivered.items - count_set c.args.world.now.marks.delivered.items in
    let n = count_set x.marks.delivered.items - count_set c.args.world.now.marks.delivered.items in
    let en : n ≡ suc m = omega (arith, i.counts, o.0, o.1) in
    let ea : x.accepted.now ≡ c.args.world.now.accepted.now = c.print_delivery.ensures.accepted ∙ i.accepted in
    let so = settled_on g.W.Workspace w x k first c.in_ok-print_delivery.ensures.stepped p (ap (λ (a : Accepted). grammar_of a.grammar) i.accepted)
    (λ v. Shows g.W.Workspace c.args.world.now v) (count_set c.args.world.now.marks.delivered.items) i.counts i.settled in
    record {
      accepted = ea;
      loads = c.print_delivery.ensures.loads ∙ i.loads;
      named = c.print_delivery.ensures.names ∙ i.named;
      counts = omega (arith, i.counts, o.0, o.1);
      settled = so;
      whole = λ v s new r next.
          let u = V.settle m p v in
          let b = bound_of p v.taken in
          let t : bound_of (grammar_of x.accepted.now.grammar) (map choice_of x.taken.items) ≡ b =
          ap (λ (a : Accepted). bound_of (grammar_of a.grammar) (map choice_of x.taken.items)) ea ∙ ap (bound_of p) (ap (λ (u : V.World). u.taken) (so v s) ∙ settle_taken p n v) in
          let l = bounded g.W.Workspace x in
          let one : Prints (move_lines (words_of d) u (V.Delivers k) (V.deliver p u k)) c.loop-number.report c.print_delivery.new.report (Ok tt) =
          subst (λ (a : Accepted). Prints (move_lines (words_of a.grammar) u (V.Delivers k) (V.deliver (grammar_of a.grammar) u k)) c.loop-number.report c.print_delivery.new.report (Ok tt)) i.accepted
          (c.in_ok-print_delivery.ensures.prints u (i.settled v s)) in
          i.whole v s new r (subst (λ z. Prints z c.loop-number.report new r)
          (lines_more (words_of d) p v b m n k (ap V.undelivered (sym (i.settled v s)) ∙ first) en (omega (arith, l, t)))
          (Prints-second _ _ c.loop-number.report c.print_delivery.new.report new r one next));
    }

pub returns-in_err-print_delivery-clause-prints : goal.returns-in_err-print_delivery-clause-prints
returns-in_err-print_delivery-clause-prints g c = λ v s.
    let w = c.loop-number.world in
    let i = c.loop-number.invariant in
    let k = c.in-Some.number in
    let d = c.args.world.now.accepted.now.grammar in
    let p = grammar_of d in
    let m = count_set w.marks.delivered.items - count_set c.args.world.now.marks.delivered.items in
    let u = V.settle m p v in
    let first = sym c.quiet.ensures ∙ c.in-Some.is in
    let b = room_left g.W.Workspace w k first in
    let t : bound_of (grammar_of w.accepted.now.grammar) (map choice_of w.taken.items) ≡ bound_of p v.taken =
    ap (λ (a : Accepted). bound_of (grammar_of a.grammar) (map choice_of w.taken.items)) i.accepted ∙ ap (bound_of p) (ap (λ (u : V.World). u.taken) (i.settled v s) ∙ settle_taken p m v) in
    let new = c.print_delivery.new.report in
    let one : Prints (move_lines (words_of d) u (V.Delivers k) (V.deliver p u k)) c.loop-number.report new c.print_delivery.result =
    subst (λ (a : Accepted). Prints (move_lines (words_of a.grammar) u (V.Delivers k) (V.deliver (grammar_of a.grammar) u k)) c.loop-number.report new c.print_delivery.result) i.accepted
    (c.print_delivery.ensures.prints u (i.settled v s)) in
    i.whole v s new c.from_residual.result (stops _ _ _ c.loop-number.report new c.print_delivery.result c.from_residual.result _
    (sym (lines_more (words_of d) p v (bound_of p v.taken) m (suc m) k (ap V.undelivered (sym (i.settled v s)) ∙ first) refl (omega (arith, b, t))))
    c.in_err-print_delivery.was (search rules) one)

pub returns-in_err-print_delivery-clause-some : goal.returns-in_err-print_delivery-clause-some
returns-in_err-print_delivery-clause-some g c =
    let w = c.loop-number.world in
    let x = c.print_delivery.new.world in
    let i = c.loop-number.invariant in
    let k = c.in-Some.number in
    let p = grammar_of c.args.world.now.accepted.now.grammar in
    let m = count_set w.marks.delivered.items - count_set c.args.world.now.marks.delivered.items in
    let b = room_left g.W.Workspace w k (sym c.quiet.ensures ∙ c.in-Some.is) in
    let kept : SettlesSome g.W.Workspace c.args.world.now x = λ v s.
    let t : bound_of (grammar_of w.accepted.now.grammar) (map choice_of w.taken.items) ≡ bound_of p v.taken =
    ap (λ (a : Accepted). bound_of (grammar_of a.grammar) (map choice_of w.taken.items)) i.accepted ∙ ap (bound_of p) (ap (λ (u : V.World). u.taken) (i.settled v s) ∙ settle_taken p m v) in
    elim (c.in_err-print_delivery.ensures.some (V.settle m p v) (i.settled v s)) [
      | inl S ↦ (m, omega (arith, b, t), S)
      | inr S ↦ (
        suc m,
        omega (arith, b, t),
        subst (Shows g.W.Workspace x) (sym (settle_more p m v k (ap V.undelivered (sym (i.settled v s)) ∙ (sym c.quiet.ensures ∙ c.in-Some.is))))
            (subst (λ (a : Accepted). Shows g.W.Workspace x (V.deliver (grammar_of a.grammar) (V.settle m p v) k).world) i.accepted S),
      )
    ] in
    let some : DoesSome g.W.Workspace c.args.world.now x E.Settles = some_settled g.W.Workspace c.args.world.now x kept in
    on_err _ some

pub returns-clause-does : goal.returns-clause-does
returns-clause-does g c = on_ok_weaker c.print_settled.result (λ e v s.
    let w = c.loop-number.world in
    let i = c.loop-number.invariant in
    settled_whole g.W.Workspace w (grammar_of c.args.world.now.accepted.now.grammar) (ap (λ (a : Accepted). grammar_of a.grammar) i.accepted) (count_set c.args.world.now.marks.delivered.items) v
    (sym c.quiet.ensures ∙ c.in_default.is) (i.settled v s)) c.print_settled.ensures.ok

pub returns-clause-prints : goal.returns-clause-prints
returns-clause-prints g c = λ v s.
    let w = c.loop-number.world in
    let i = c.loop-number.invariant in
    let d = c.args.world.now.accepted.now.grammar in
    let p = grammar_of d in
    let m = count_set w.marks.delivered.items - count_set c.args.world.now.marks.delivered.items in
    let b = bound_of p v.taken in
    let ec : c.delivered.result - c.delivered-before.result ≡ m = omega (arith, c.delivered.ensures, c.delivered-before.ensures) in
    i.whole v s c.print_settled.new.report c.print_settled.result (subst (λ z. Prints z c.loop-number.report c.print_settled.new.report c.print_settled.result)
    (ap (λ j. codes "settled " ++ (decimal j ++ codes "\n")) ec
    ∙ sym (lines_end (words_of d) p (V.settle m p v) (b - m) m (ap V.undelivered (sym (i.settled v s)) ∙ (sym c.quiet.ensures ∙ c.in_default.is))))
    c.print_settled.ensures)

pub returns-clause-some : goal.returns-clause-some
returns-clause-some g c =
    let w = c.loop-number.world in
    let i = c.loop-number.invariant in
    let p = grammar_of c.args.world.now.accepted.now.grammar in
    let m = count_set w.marks.delivered.items - count_set c.args.world.now.marks.delivered.items in
    let b = bounded g.W.Workspace w in
    let kept : SettlesSome g.W.Workspace c.args.world.now w = λ v s.
    let t : bound_of (grammar_of w.accepted.now.grammar) (map choice_of w.taken.items) ≡ bound_of p v.taken =
    ap (λ (a : Accepted). bound_of (grammar_of a.grammar) (map choice_of w.taken.items)) i.accepted ∙ ap (bound_of p) (ap (λ (u : V.World). u.taken) (i.settled v s) ∙ settle_taken p m v) in
    (m, omega (arith, b, t), i.settled v s) in
    let some : DoesSome g.W.Workspace c.args.world.now w E.Settles = some_settled g.W.Workspace c.args.world.now w kept in
    on_err _ some

pub print_delivery-requires : goal.print_delivery-requires
print_delivery-requires g c = record { named = c.loop-number.invariant.named ∙ c.requires.named ∙ sym (ap (λ (a : Accepted). a.grammar) c.loop-number.invariant.accepted) }
