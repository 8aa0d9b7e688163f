use Rattle.std.proofs.Common.{◌≡◌, ◌+◌, ◌++◌, ◌∷◌, length, map, ap, sym, ◌∙◌, arith, ◌<◌, []}
use Rattle.std.proofs.lemmas.Result.{IfOk-weaker}
use Rattle.aw_term.specs.Trees.{join}
use Rattle.aw_term.specs.Matching.{Yes, Differs, and_then, match, match_parts}
use Rattle.aw_term.specs.Views.{pattern_of}
use Rattle.aw_choice.specs.ChoiceView.{path_of}
use Rattle.std.specs.declared.vec.Vec.{Vec}
use Rattle.std.specs.declared.alloc.Global.{Global}
use Rattle.aw_plain_rows.specs.declared.tree.Tree.{Tree}
use Rattle.aw_plain_rows.specs.TreeView.{value_of, values_of}
use Rattle.aw_plain.specs.MatchView.{matched_of, behind}
use Rattle.aw_plain.specs.declared.matching.Matched.{Matched}
use Rattle.aw_term.proofs.Joined.{symbols_at, nesting_at}
use Rattle.aw_plain.proofs.MatchLemmas.{from, one_more, more_taken, narrow_at, con_match, con_long, parts_of, behind_here, narrow_parts, few_parts, symbols_con, nesting_con}
use Rattle.aw_plain.proofs.matching.+matching.Goals as goal

pub match_at-returns-then-len : goal.match_at-returns-then-len
match_at-returns-then-len t c =
    let e : c.in-Con.c ≡ c.in-Con-tree.con = omega arith in
    let us = c.in_ok-trees-in-Con-tree.trees in
    let l : length c.in-Con.parts ≡ length us → ⊥ = λ h. omega (arith, h) in
    let v = parts_of _ _ _ _ c.as_slice.result.now us c.in-Con-tree.is (c.as_slice.ensures.value ∙ ap (λ (ts : Vec Tree Global). ts.items) c.deref.ensures) c.in_ok-trees-in-Con-tree.ensures in
    behind_here _ ∙ ap (behind (path_of c.args.at.now)) (sym (con_long _ _ _ us _ _ c.in-Con.is v e l))

pub match_at-returns-else-len : goal.match_at-returns-else-len
match_at-returns-else-len t c =
    let e : c.in-Con.c ≡ c.in-Con-tree.con = omega arith in
    let us = c.in_ok-trees-in-Con-tree.trees in
    let l : length c.in-Con.parts ≡ length us = omega arith in
    let v = parts_of _ _ _ _ c.as_slice.result.now us c.in-Con-tree.is (c.as_slice.ensures.value ∙ ap (λ (ts : Vec Tree Global). ts.items) c.deref.ensures) c.in_ok-trees-in-Con-tree.ensures in
    let h = ap (λ ps. match_parts 1 (join (map pattern_of ps)) (join (map value_of c.as_slice-in-Con-tree-2.result.now))) c.as_slice-in-Con-tree.ensures
    ∙ ap (λ us. match_parts 1 (join (map pattern_of c.in-Con.parts)) (join (map value_of us))) c.as_slice-in-Con-tree-2.ensures
    ∙ sym (con_match _ _ _ us _ _ c.in-Con.is v e l) in
    IfOk-weaker c.match_parts.result _ _ (λ (m : Matched) w. w ∙ ap (behind (path_of c.args.at.now)) h) c.match_parts.ensures

pub match_at-match_parts-requires : goal.match_at-match_parts-requires
match_at-match_parts-requires t c = (
  omega (arith, c.decreases, symbols_con c.as_slice-in-Con-tree.result.now _ _ _ c.as_slice-in-Con-tree.ensures c.in-Con.is),
  (
    narrow_parts _ _ _ _ c.as_slice-in-Con-tree.ensures c.in-Con.is c.requires.narrow,
    (
      few_parts _ _ _ _ c.as_slice-in-Con-tree.ensures c.in-Con.is c.requires.narrow,
      (
        omega (arith, ap length c.as_slice-in-Con-tree.ensures, ap length c.as_slice-in-Con-tree-2.ensures),
        omega (arith, c.requires.shallow, nesting_con c.as_slice-in-Con-tree.result.now _ _ _ c.as_slice-in-Con-tree.ensures c.in-Con.is),
      ),
    ),
  ),
)

pub match_parts-match_at-requires : goal.match_parts-match_at-requires
match_parts-match_at-requires t c =
    let ps = c.args.parts.now in
    let lt : c.loop-i.i < length ps = c.loop-i-test.true in (
      omega (arith, c.decreases, symbols_at ps c.loop-i.i _ lt c.index-parts-i.is),
      (
        narrow_at ps c.loop-i.i _ lt c.index-parts-i.is c.requires.narrow,
        omega (arith, c.requires.shallow, nesting_at ps c.loop-i.i _ lt c.index-parts-i.is, c.push.ensures.length),
      ),
    )

pub match_parts-loop-i-preserved : goal.match_parts-loop-i-preserved
match_parts-loop-i-preserved t c =
    let ps = c.args.parts.now in
    let ts = c.args.trees.now in
    let q = path_of c.args.at.now in
    let i = c.loop-i.i in
    let lt : i < length ps = c.loop-i-test.true in
    let old = c.loop-i.taken.items in
    let found = c.in-Yes.found in
    let em : Yes (values_of found) ≡ behind (q ++ (i + 1) ∷ []) (match (pattern_of c.index-parts-i.result) (value_of c.index-trees-i.result)) =
    ap matched_of (sym c.in-Yes.is) ∙ c.in_ok-found.ensures ∙ ap (λ path. behind path (match (pattern_of c.index-parts-i.result) (value_of c.index-trees-i.result))) c.push.ensures.steps in
    ap (λ us. and_then (Yes (values_of us)) (behind q (from (i + 1 + 1) (i + 1) ps ts))) c.in_ok-append-in-Yes.ensures
    ∙ more_taken old found _
    ∙ ap (λ n. and_then (Yes (values_of old)) (and_then (Yes (values_of found)) (behind q (from n (i + 1) ps ts)))) (omega arith)
    ∙ one_more q (i + 1) i ps ts c.index-parts-i.result c.index-trees-i.result (values_of old) (Yes (values_of found)) _ lt
    (omega (arith, lt, c.requires.same)) c.index-parts-i.is c.index-trees-i.is em c.loop-i.invariant

pub match_parts-returns-in-Waits : goal.match_parts-returns-in-Waits
match_parts-returns-in-Waits t c =
    let ps = c.args.parts.now in
    let ts = c.args.trees.now in
    let q = path_of c.args.at.now in
    let i = c.loop-i.i in
    let lt : i < length ps = c.loop-i-test.true in
    let em =
    ap matched_of (sym c.in-Waits.is) ∙ c.in_ok-found.ensures ∙ ap (λ path. behind path (match (pattern_of c.index-parts-i.result) (value_of c.index-trees-i.result))) c.push.ensures.steps in
    one_more q (i + 1) i ps ts c.index-parts-i.result c.index-trees-i.result (values_of c.loop-i.taken.items) _ _ lt
    (omega (arith, lt, c.requires.same)) c.index-parts-i.is c.index-trees-i.is em c.loop-i.invariant

pub match_parts-returns-in-Differs : goal.match_parts-returns-in-Differs
match_parts-returns-in-Differs t c =
    let ps = c.args.parts.now in
    let ts = c.args.trees.now in
    let q = path_of c.args.at.now in
    let i = c.loop-i.i in
    let lt : i < length ps = c.loop-i-test.true in
    let em : Differs (path_of c.in-Differs.path) ≡ behind (q ++ (i + 1) ∷ []) (match (pattern_of c.index-parts-i.result) (value_of c.index-trees-i.result)) =
    ap matched_of (sym c.in-Differs.is) ∙ c.in_ok-found.ensures ∙ ap (λ path. behind path (match (pattern_of c.index-parts-i.result) (value_of c.index-trees-i.result))) c.push.ensures.steps in
    one_more q (i + 1) i ps ts c.index-parts-i.result c.index-trees-i.result (values_of c.loop-i.taken.items) (Differs (path_of c.in-Differs.path)) _
    lt (omega (arith, lt, c.requires.same)) c.index-parts-i.is c.index-trees-i.is em c.loop-i.invariant
