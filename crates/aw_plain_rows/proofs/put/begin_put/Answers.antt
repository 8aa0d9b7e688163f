use Rattle.std.proofs.Common.{◌≡◌, ◌∷◌, ◌++◌, [], map, length, ap, sym, ◌∙◌, arith}
use Rattle.std.proofs.lemmas.List.{length-map}
use Rattle.std.specs.declared.vec.Vec.{Vec}
use Rattle.std.specs.declared.alloc.Global.{Global}
use Rattle.aw_term.specs.Trees.{bind}
use Rattle.aw_term.specs.Configs.{put}
use Rattle.aw_plain_rows.specs.declared.tree.Tree.{Tree}
use Rattle.aw_term.specs.Rules.{Value}
use Rattle.aw_plain_rows.specs.TreeView.{value_of, values_of}
use Rattle.aw_plain_rows.specs.Jobs.{finish, made, work}
use Rattle.aw_plain_rows.specs.Places.{places_of_all}
use Rattle.aw_plain_rows.proofs.JobLemmas.{finish_push, work_push, made_of, bind_con, bind_marked, value_pushed}
use Rattle.aw_plain_rows.proofs.Counts.{places_made}
use Rattle.aw_plain_rows.proofs.put.begin_put.Goals as goal

pub returns-then-whole-clause-finish : goal.returns-then-whole-clause-finish
returns-then-whole-clause-finish c =
    let f = put c.args.node.now (values_of c.args.results.now) in
    let same = bind_marked f c.args.tree.now _ _ _ c.in-Con.is c.if-whole.true in
    ap (finish f c.args.todo.now.items) (value_pushed c.args.values.now.items _ _ _ c.in_ok-push-in-Con.ensures.items (c.in_ok-copy_tree-in-Con.ensures ∙ same))

pub returns-in_ok-push_parts-in-Con-clause-finish :
    goal.returns-in_ok-push_parts-in-Con-clause-finish
returns-in_ok-push_parts-in-Con-clause-finish c =
    let f = put c.args.node.now (values_of c.args.results.now) in
    let vs = values_of c.args.values.now.items in
    let g : Tree → Value = λ t. bind f (value_of t) in
    let con = c.in-Con.con in
    let ps = c.as_slice.result.now in
    let us = map g ps in
    let old = c.args.todo.now.items in
    let held = c.as_slice.ensures.value ∙ ap (λ (ts : Vec Tree Global). ts.items) c.deref-in-Con.ensures in
    let n : c.len.result ≡ length us = omega (
      arith,
      c.len.ensures,
      ap (λ (ts : Vec Tree Global). length ts.items) c.deref.ensures,
      ap length held,
      length-map ps g,
      c.deref.result.now.ok.0,
      c.in-Con.parts.value.ok.0,
    ) in
    c.in_ok-push_parts-in-Con.ensures.finish f vs
    ∙ ap (λ js. finish f js (vs ++ us)) c.in_ok-push-in-Con-2.ensures.items
    ∙ finish_push f old _ (vs ++ us)
    ∙ ap (finish f old) (ap (λ n. made con n (vs ++ us)) n ∙ made_of con vs us
    ∙ ap (λ t. vs ++ t ∷ []) (sym (bind_con f c.args.tree.now con _ c.in-Con.parts ps c.in-Con.is c.if-whole.false held)))

pub returns-in_ok-push_parts-in-Con-clause-work :
    goal.returns-in_ok-push_parts-in-Con-clause-work
returns-in_ok-push_parts-in-Con-clause-work c =
    let held = c.as_slice.ensures.value ∙ ap (λ (ts : Vec Tree Global). ts.items) c.deref-in-Con.ensures in
    omega (arith, c.in_ok-push_parts-in-Con.ensures.work, ap work c.in_ok-push-in-Con-2.ensures.items, work_push, places_made _ _ _ _ c.in-Con.is, ap places_of_all held)
