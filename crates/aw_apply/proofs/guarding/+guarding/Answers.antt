use Rattle.std.proofs.Common.{◌≡◌, ◌+◌, ◌<◌, [], length, map, refl, ap, sym, ◌∙◌, arith, suc}
use Rattle.std.proofs.lemmas.Bool.{leb-true}
use Rattle.std.proofs.lemmas.List.{length-map}
use Rattle.std.proofs.lemmas.Option.{slice_get_within}
use Rattle.aw_list.proofs.Everyday.{get_within as name_at}
use Rattle.aw_term.specs.Trees.{Con, join}
use Rattle.aw_term.specs.Matching.{Yes, and_then}
use Rattle.aw_term.specs.WellFormed.{symbols, nesting, leaves}
use Rattle.aw_term.specs.Views.{pattern_of}
use Rattle.aw_term.proofs.Joined.{count_join, symbols_at, nesting_at}
use Rattle.aw_term.specs.Limits.{most_parts}
use Rattle.aw_choice.specs.ChoiceView.{path_of}
use Rattle.aw_store.specs.NamedRefs.{con_parts, parts_at}
use Rattle.aw_store.specs.Chase.{chase}
use Rattle.aw_store.proofs.StoreLemmas.{found_small}
use Rattle.aw_apply.specs.Guard.{guard_end, guard, guard_parts}
use Rattle.aw_apply.specs.Named.{names_at, as_named, behind}
use Rattle.aw_apply.proofs.GuardLemmas.{from, found_live, con_term, leaves_at, one_more, end_differs, end_goes, not_yes}
use Rattle.aw_apply.proofs.guarding.+guarding.Goals as goal

pub guard_at-guard_con-requires : goal.guard_at-guard_con-requires
guard_at-guard_con-requires g t c κs within =
    let e = con_term c.as_slice.result.now _ _ _ c.as_slice.ensures c.in-Con.is in (
      omega (arith, c.decreases, ap symbols e),
      (within, (c.requires.live, (omega (arith, c.requires.shallow, ap nesting e), omega (arith, c.requires.room, ap (λ p. length (leaves p)) e)))),
    )

pub guard_at-returns-in-Con-clause-step : goal.guard_at-returns-in-Con-clause-step
guard_at-returns-in-Con-clause-step g t c = λ r f.
    let k = g.F.Facts.map c.args.f.now in
    let names = g.F.Facts.names c.args.f.now in
    c.guard_con.ensures.step r f
    ∙ ap (λ p. and_then (Yes (names_at names c.args.bound.now)) (behind (path_of c.args.at.now) (as_named (guard k p r)))) (sym (con_term c.as_slice.result.now _ _ _ c.as_slice.ensures c.in-Con.is))

pub guard_at-returns-in-Con-clause-room : goal.guard_at-returns-in-Con-clause-room
guard_at-returns-in-Con-clause-room g t c = omega (arith, c.guard_con.ensures.room, ap (λ p. length (leaves p)) (con_term c.as_slice.result.now _ _ _ c.as_slice.ensures c.in-Con.is))

pub guard_con-is_con-requires : goal.guard_con-is_con-requires
guard_con-is_con-requires g t c = found_live _ _ _ _ c.requires.live c.in-Found.ensures

pub guard_con-guard_parts-requires : goal.guard_con-guard_parts-requires
guard_con-guard_parts-requires g t c κs within =
    let k = g.F.Facts.map c.args.f.now in
    let names = g.F.Facts.names c.args.f.now in
    let ps = c.args.parts.now in
    let (r, f) = name_at names c.args.slot c.requires.live in
    let w = end_goes k names c.args.slot c.in-Found.end [] [] _ (guard_parts k 1 (join (map pattern_of ps))) (Con c.args.con) (length ps) r
    (c.in-Found.ensures r f) (sym c.is_con.ensures ∙ c.if-is_con.true) in
    let few = leb-true _ most_parts (found_small names k c.in-Found.end _ (g.met.F.Facts.few c.args.f.now) w.1) in
    (omega (arith, c.decreases), (within, (w.2 ∙ sym (ap (λ o. length (con_parts o)) w.1), (omega (arith, few, w.2), (c.requires.shallow, c.requires.room)))))

pub guard_con-returns-then-is_con-clause-step : goal.guard_con-returns-then-is_con-clause-step
guard_con-returns-then-is_con-clause-step g t c = λ r f.
    let k = g.F.Facts.map c.args.f.now in
    let names = g.F.Facts.names c.args.f.now in
    let ps = c.args.parts.now in
    let bs = names_at names c.args.bound.now in
    let q = path_of c.args.at.now in
    let go = guard_parts k 1 (join (map pattern_of ps)) in
    let w = end_goes k names c.args.slot c.in-Found.end bs q (chase k r) go (Con c.args.con) (length ps) r (c.in-Found.ensures r f) (sym c.is_con.ensures ∙ c.if-is_con.true) in
    c.guard_parts.ensures.step
    ∙ ap (λ o. and_then (Yes bs) (behind q (as_named (go (con_parts o))))) w.1
    ∙ w.3
    ∙ ap (λ n. and_then (Yes bs) (behind q (as_named (guard_end (chase k r) go (Con c.args.con) n r)))) (sym (count_join (map pattern_of ps) ∙ length-map ps pattern_of))

pub guard_con-returns-else-is_con-clause-step : goal.guard_con-returns-else-is_con-clause-step
guard_con-returns-else-is_con-clause-step g t c = λ r f.
    let k = g.F.Facts.map c.args.f.now in
    let names = g.F.Facts.names c.args.f.now in
    let ps = c.args.parts.now in
    let bs = names_at names c.args.bound.now in
    let q = path_of c.args.at.now in
    let go = guard_parts k 1 (join (map pattern_of ps)) in
    end_differs k names c.args.slot c.in-Found.end bs q (chase k r) go (Con c.args.con) (length ps) r (c.in-Found.ensures r f) (sym c.is_con.ensures ∙ c.if-is_con.false)
    ∙ ap (λ n. and_then (Yes bs) (behind q (as_named (guard_end (chase k r) go (Con c.args.con) n r)))) (sym (count_join (map pattern_of ps) ∙ length-map ps pattern_of))

pub guard_part-guard_at-requires : goal.guard_part-guard_at-requires
guard_part-guard_at-requires g t c κs within =
    (omega (arith, c.decreases), (within, (c.requires.live, (omega (arith, c.requires.shallow, c.push-in-Lit.ensures.length), c.requires.room))))

pub guard_part-returns-in-Lit-clause-step : goal.guard_part-returns-in-Lit-clause-step
guard_part-returns-in-Lit-clause-step g t c = λ r f.
    let k = g.F.Facts.map c.args.f.now in
    let names = g.F.Facts.names c.args.f.now in
    c.guard_at.ensures.step r f
    ∙ ap (λ z. and_then (Yes (names_at names c.args.bound.now)) (behind z (as_named (guard k (pattern_of c.args.part.now) r)))) c.push-in-Lit.ensures.steps

pub guard_parts-guard_part-requires : goal.guard_parts-guard_part-requires
guard_parts-guard_part-requires g t c κs within =
    let ps = c.args.parts.now in
    let i = c.loop-i.i in
    let p = c.index-parts-i.result in
    let lt : i < length ps = c.loop-i-test.true in
    let w = name_at (parts_at (g.F.Facts.map c.args.f.now) (g.F.Facts.names c.args.f.now) c.args.slot) i (omega (arith, lt, c.requires.same)) in (
      omega (arith, c.decreases, symbols_at ps i p lt c.index-parts-i.is),
      (
        within,
        (
          slice_get_within _ _ w.0 (c.child-child.ensures ∙ w.1),
          (omega (arith, c.requires.shallow, nesting_at ps i p lt c.index-parts-i.is), omega (arith, c.loop-i.invariant.1, c.requires.room, leaves_at ps i p lt c.index-parts-i.is)),
        ),
      ),
    )

pub guard_parts-returns-in_default : goal.guard_parts-returns-in_default
guard_parts-returns-in_default g t c =
    let k = g.F.Facts.map c.args.f.now in
    let names = g.F.Facts.names c.args.f.now in
    let ps = c.args.parts.now in
    let rs = parts_at k names c.args.slot in
    let i = c.loop-i.i in
    let p = c.index-parts-i.result in
    let q = path_of c.args.at.now in
    let lt : i < length ps = c.loop-i-test.true in
    let w = name_at rs i (omega (arith, lt, c.requires.same)) in
    record {
      step = sym (not_yes names c.guard_part.new.bound c.guard_part.result _ c.in_default.not-Yes)
          ∙ one_more k q _ (i + 1) i ps rs p w.0 (names_at names c.loop-i.bound) _ _ lt c.index-parts-i.is w.1 refl (c.guard_part.ensures.step w.0 (c.child-child.ensures ∙ w.1)) c.loop-i.invariant.0;
      room = omega (arith, c.loop-i.invariant.1, c.guard_part.ensures.room, leaves_at ps i p lt c.index-parts-i.is);
    }

pub guard_parts-loop-i-preserved : goal.guard_parts-loop-i-preserved
guard_parts-loop-i-preserved g t c =
    let k = g.F.Facts.map c.args.f.now in
    let names = g.F.Facts.names c.args.f.now in
    let ps = c.args.parts.now in
    let rs = parts_at k names c.args.slot in
    let i = c.loop-i.i in
    let p = c.index-parts-i.result in
    let q = path_of c.args.at.now in
    let lt : i < length ps = c.loop-i-test.true in
    let next : i + 1 + 1 ≡ suc (i + 1) = omega arith in
    let w = name_at rs i (omega (arith, lt, c.requires.same)) in (
      ap (λ n. and_then (Yes (names_at names c.guard_part.new.bound)) (behind q (as_named (from k n (i + 1) ps rs)))) next
          ∙ one_more k q _ (i + 1) i ps rs p w.0 (names_at names c.loop-i.bound) _ _ lt c.index-parts-i.is w.1 refl (c.in-Yes.ensures.step w.0 (c.child-child.ensures ∙ w.1)) c.loop-i.invariant.0,
      omega (arith, c.loop-i.invariant.1, c.guard_part.ensures.room, leaves_at ps i p lt c.index-parts-i.is),
    )
