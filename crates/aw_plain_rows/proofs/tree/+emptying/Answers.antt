use Rattle.std.proofs.Common.{◌≡◌, ℕ, ◌+◌, ◌≤◌, ◌∷◌, [], ◌++◌, false, arith, ap, ◌∙◌}
use Rattle.std.specs.declared.vec.Vec.{Vec}
use Rattle.std.specs.declared.rc.Rc.{Rc}
use Rattle.std.specs.declared.alloc.Global.{Global}
use Rattle.aw_plain_rows.specs.declared.tree.Tree.{Tree}
use Rattle.aw_plain_rows.specs.Places.{places, places_of_all, places_open}
use Rattle.aw_plain_rows.proofs.Counts.{places_con, places_made, places_append, places_positive, falls_hand, falls_all}
use Rattle.aw_plain_rows.proofs.tree.+emptying.Goals as goal
use Rattle.aw_plain_rows.proofs.tree.+emptying.Goals.{Tree::drop-in-Some-open, Tree::drop-in_default}

pub Tree::drop-let_go-requires : goal.Tree::drop-let_go-requires
Tree::drop-let_go-requires t c = (omega (arith, c.decreases, c.loop-self.invariant, places_made _ _ _ _ c.in-Con.is, ap places_of_all c.in-None.ensures), tt)

pub Tree::drop-hang_rest-parts-requires : goal.Tree::drop-hang_rest-parts-requires
Tree::drop-hang_rest-parts-requires t c =
    let split = places_append c.take_last.new.parts.value.items (c.in-Some.last ∷ []) in (
      omega (
        arith,
        c.decreases,
        c.loop-self.invariant,
        places_made _ _ _ _ c.in-Con.is,
        ap places_of_all c.in-Some.ensures,
        split,
        places_positive c.in-Some.last,
        ap places_open c.in-Some-open.is,
      ),
      tt,
    )

pub hang_rest-drop-requires : goal.hang_rest-drop-requires
hang_rest-drop-requires t c = (omega (arith, c.decreases, ap places c.in-Err.ensures.0, places_con 0 false c.args.rest), tt)

pub hang_rest-returns-in_default : goal.hang_rest-returns-in_default
hang_rest-returns-in_default t c = omega (arith, ap places_of_all c.in_default.ensures, places_con 0 false c.args.rest)

pub Tree::drop-loop-self-smaller-in-Some : goal.Tree::drop-loop-self-smaller-in-Some
Tree::drop-loop-self-smaller-in-Some t c =
    let split = places_append c.take_last.new.parts.value.items (c.in-Some.last ∷ []) in
    let size : Rc (Vec Tree Global) Global → ℕ = λ v. places_of_all v.value.items in
    let kept : size c.match-open.parts ≤ size c.take_last.new.parts + places_open c.loop-self.open + 1 =
    elim c.match-open.branch [
      | Tree::drop-in-Some-open w ↦ omega (arith, ap size w.parts-is, w.hang_rest-parts.ensures, ap places_open w.in-Some-open.is)
      | Tree::drop-in_default w ↦ omega (arith, ap size w.parts-is)
    ] in
    falls_hand _ _ _ _ (omega (arith, kept, split, places_made _ _ _ _ c.in-Con.is, ap places_of_all c.in-Some.ensures))
    (omega (arith, split, places_made _ _ _ _ c.in-Con.is, ap places_of_all c.in-Some.ensures))

pub Tree::drop-loop-self-preserved-in-Some : goal.Tree::drop-loop-self-preserved-in-Some
Tree::drop-loop-self-preserved-in-Some t c =
    let split = places_append c.take_last.new.parts.value.items (c.in-Some.last ∷ []) in
    let size : Rc (Vec Tree Global) Global → ℕ = λ v. places_of_all v.value.items in
    let kept : size c.match-open.parts ≤ size c.take_last.new.parts + places_open c.loop-self.open + 1 =
    elim c.match-open.branch [
      | Tree::drop-in-Some-open w ↦ omega (arith, ap size w.parts-is, w.hang_rest-parts.ensures, ap places_open w.in-Some-open.is)
      | Tree::drop-in_default w ↦ omega (arith, ap size w.parts-is)
    ] in
    omega (arith, kept, split, c.loop-self.invariant, places_made _ _ _ _ c.in-Con.is, ap places_of_all c.in-Some.ensures)

pub Tree::drop-loop-self-smaller : goal.Tree::drop-loop-self-smaller
Tree::drop-loop-self-smaller t c =
    let rest = c.take_last-in-Some-open-2.new.parts in
    let split = places_append rest.value.items (c.in-Some-take_last.last ∷ []) in
    let was : places_open c.loop-self.open ≡ places_of_all (rest.value.items ++ c.in-Some-take_last.last ∷ []) = ap places_open c.in-Some-open-2.is ∙ ap places_of_all c.in-Some-take_last.ensures in
    falls_all _ _ _ _ (omega (arith, split, was, places_positive c.loop-self.self)) (omega arith)

pub Tree::drop-loop-self-preserved : goal.Tree::drop-loop-self-preserved
Tree::drop-loop-self-preserved t c =
    let rest = c.take_last-in-Some-open-2.new.parts in
    let split = places_append rest.value.items (c.in-Some-take_last.last ∷ []) in
    let was : places_open c.loop-self.open ≡ places_of_all (rest.value.items ++ c.in-Some-take_last.last ∷ []) = ap places_open c.in-Some-open-2.is ∙ ap places_of_all c.in-Some-take_last.ensures in
    omega (arith, split, was, c.loop-self.invariant)

pub let_go-drop-requires : goal.let_go-drop-requires
let_go-drop-requires t c =
    let split = places_append c.pop.new.self.items (c.in-Some-pop.part ∷ []) in
    (omega (arith, c.decreases, c.loop-list.invariant, ap places_of_all c.in-Some-pop.ensures.items, split), tt)

pub let_go-loop-list-smaller : goal.let_go-loop-list-smaller
let_go-loop-list-smaller t c =
    let split = places_append c.pop.new.self.items (c.in-Some-pop.part ∷ []) in
    omega (arith, ap places_of_all c.in-Some-pop.ensures.items, split, places_positive c.in-Some-pop.part)

pub let_go-loop-list-preserved : goal.let_go-loop-list-preserved
let_go-loop-list-preserved t c =
    let split = places_append c.pop.new.self.items (c.in-Some-pop.part ∷ []) in
    omega (arith, c.loop-list.invariant, ap places_of_all c.in-Some-pop.ensures.items, split)
