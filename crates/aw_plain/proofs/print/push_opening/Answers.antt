use Rattle.std.proofs.Common.{◌≡◌, refl, true, false, ◌++◌, codes, ap, sym, ◌∙◌, append_assoc}
use Rattle.std.proofs.lemmas.Result.{on_ok_weaker}
use Rattle.std.specs.declared.vec.Vec.{Vec}
use Rattle.std.specs.declared.alloc.Global.{Global}
use Rattle.aw_plain_rows.specs.declared.tree.Tree.{Tree}
use Rattle.aw_grammar.specs.GrammarOf.{words_of}
use Rattle.aw_plain.proofs.PrintLemmas.{opening_none, opening_some}
use Rattle.aw_plain.proofs.print.push_opening.Goals as goal

pub returns-then-are_none : goal.returns-then-are_none
returns-then-are_none c =
    let w = words_of c.args.grammar.now in
    let held = c.as_slice-in-Con.ensures.value ∙ ap (λ (ts : Vec Tree Global). ts.items) c.deref-in-Con.ensures in
    c.in_ok-push_bytes-in-Con.ensures.ok ∙ ap (λ t. c.args.text.now ++ t) (c.con_name.ensures ∙ sym (opening_none w _ _ _ _ _ c.in-Con.is held (c.if-are_none.ensures.0 refl)))

pub returns-else-are_none : goal.returns-else-are_none
returns-else-are_none c =
    let w = words_of c.args.grammar.now in
    let held = c.as_slice-in-Con.ensures.value ∙ ap (λ (ts : Vec Tree Global). ts.items) c.deref-in-Con.ensures in
    on_ok_weaker c.push_bytes-in-Con.result (λ e. e
    ∙ ap (λ t. t ++ codes "(") (c.in_ok-push_bytes-in-Con.ensures.ok ∙ ap (λ t. c.args.text.now ++ t) c.con_name.ensures)
    ∙ append_assoc c.args.text.now _ (codes "(")
    ∙ ap (λ t. c.args.text.now ++ t) (sym (opening_some w _ _ _ _ _ c.in-Con.is held (λ e. let no : false ≡ true = c.if-are_none.ensures.1 e in absurd cc)))) c.push_bytes-in-Con.ensures.ok
