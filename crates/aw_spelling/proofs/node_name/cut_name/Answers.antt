use Rattle.std.proofs.Common.{◌≡◌, ◌∙◌, sym, ap, arith, ℕ, Bool, true, false, List, Option, Some, None, cond, take, drop}
use Rattle.std.specs.List.{list_all}
use Rattle.aw_spelling.specs.Spelling.{is_name, is_name_byte}
use Rattle.aw_spelling.specs.NodeParts.{if_named}
use Rattle.aw_spelling.proofs.NameCuts.{cut_there, all_of_name, no_mark_there, plain_front}
use Rattle.aw_spelling.proofs.node_name.cut_name.Goals as goal

-- both halves, where the first is a name
both : (a b x y : List ℕ) (o : Option (List ℕ × List ℕ)) (t : Bool) → o ≡ Some (a, b) → x ≡ a → y ≡ b → t ≡ is_name x → cond t (Some (x, y)) None ≡ if_named o
both a b x y o t e f g h = ap (λ u. cond u (Some (x, y)) None) h ∙ (λ i. cond (is_name (f i)) (Some (f i, g i)) None) ∙ ap if_named (sym e)

pub returns-then-len-bytes : goal.returns-then-len-bytes
returns-then-len-bytes c =
    sym (ap if_named (all_of_name c.args.mark c.name_len-len.result c.args.bytes.now c.requires c.name_len-len.ensures.value c.if-len-bytes.true))

pub returns-then-bytes-len : goal.returns-then-bytes-len
returns-then-bytes-len c =
    sym (no_mark_there c.args.mark c.name_len-len.result c.args.bytes.now c.requires c.name_len-len.ensures.value (omega arith) c.if-bytes-len.true)

pub is_plain_name-requires : goal.is_plain_name-requires
is_plain_name-requires c =
    let bs = c.args.bytes.now in
    ap (list_all is_name_byte) c.split_at.ensures.front ∙ ap (λ k. list_all is_name_byte (take k bs)) c.name_len-len.ensures.value ∙ plain_front is_name_byte bs

pub returns-then-is_plain_name : goal.returns-then-is_plain_name
returns-then-is_plain_name c =
    let there = cut_there c.args.mark c.name_len-len.result c.args.bytes.now c.requires c.name_len-len.ensures.value (omega arith) c.if-bytes-len.false in
    both _ _ c.split_at.result.0.now c.split_at-2.result.1.now _ true there c.split_at.ensures.front
    (c.split_at-2.ensures.back ∙ ap (drop 1) c.split_at.ensures.back) c.if-is_plain_name.ensures

pub returns-else-is_plain_name : goal.returns-else-is_plain_name
returns-else-is_plain_name c =
    let there = cut_there c.args.mark c.name_len-len.result c.args.bytes.now c.requires c.name_len-len.ensures.value (omega arith) c.if-bytes-len.false in
    both _ _ c.split_at.result.0.now c.split_at-2.result.1.now _ false there c.split_at.ensures.front
    (c.split_at-2.ensures.back ∙ ap (drop 1) c.split_at.ensures.back) c.if-is_plain_name.ensures
