use Rattle.std.proofs.Common.{◌≡◌, ◌+◌, ◌++◌, suc, [], false, true, refl, sym, ap, ◌∙◌, arith}
use Rattle.std.proofs.lemmas.Result.{on_ok_weaker}
use Rattle.aw_grammar.specs.GrammarOf.{words_of}
use Rattle.aw_print.proofs.ListLemmas.{before, ground_text-con, con_text-none, one_argument, con_done}
use Rattle.aw_print.proofs.ground.+arguments.Goals as goal

pub push_ground-returns-then-is_empty : goal.push_ground-returns-then-is_empty
push_ground-returns-then-is_empty t c =
    let w = words_of c.args.g.now in
    c.in_ok-push_bytes-in-Con.ensures.ok ∙ ap (λ x. c.args.text.now ++ x)
    (c.con_name.ensures ∙ sym (ground_text-con w c.args.ground.now c.in-Con.con c.in-Con.parts c.in-Con.is ∙ con_text-none w c.in-Con.con
    c.in-Con.parts (c.if-is_empty.ensures.0 refl)))

pub push_ground-returns-in_ok-push_grounds-in-Con : goal.push_ground-returns-in_ok-push_grounds-in-Con
push_ground-returns-in_ok-push_grounds-in-Con t c =
    let no = λ (e : c.in-Con.parts ≡ []). let f : false ≡ true = c.if-is_empty.ensures.1 e in absurd cc in
    on_ok_weaker c.push-in-Con.result (λ e.
    con_done (words_of c.args.g.now) c.args.ground.now c.in-Con.con c.in-Con.parts c.as_slice-in-Con.result.now c.con_name.result.now c.args.text.now
    _ _ c.push_grounds.new.text _ c.in-Con.is c.as_slice-in-Con.ensures no c.con_name.ensures
    c.in_ok-push_bytes-in-Con.ensures.ok c.in_ok-push-in-Con.ensures.ok c.in_ok-push_grounds-in-Con.ensures e) c.push-in-Con.ensures.ok

pub push_grounds-loop-ground-preserved : goal.push_grounds-loop-ground-preserved
push_grounds-loop-ground-preserved t c = record {
  text = one_argument (words_of c.args.g.now) c.args.grounds.now c.loop-ground.ground-index c.ground-item.result c.args.text.now c.loop-ground.text _
      c.push_ground.new.text c.loop-ground.between.now c.loop-ground-test.true c.ground-item.is c.loop-ground.invariant.between
      c.loop-ground.invariant.text c.in_ok-push_bytes.ensures.ok c.in_ok-push_ground.ensures;
  between = let e : suc c.loop-ground.ground-index ≡ c.loop-ground.ground-index + 1 = omega arith in ap before e;
}
