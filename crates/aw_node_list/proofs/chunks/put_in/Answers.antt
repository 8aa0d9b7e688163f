use Rattle.std.proofs.Common.{◌≡◌, ◌<◌, ◌≤◌, ◌+◌, ◌-◌, [], length, get_or, set, sym, ap, subst, ◌∙◌, arith, refl}
use Rattle.std.specs.Prelude.{All, insert}
use Rattle.std.specs.List.{concat}
use Rattle.std.proofs.lemmas.List.{get_or_default, take_rest}
use Rattle.aw_node_list.specs.Chunks.{begin_of, chunk_at}
use Rattle.aw_node_list.proofs.ChunkLemmas.{start_is, few_behind, put_items, put_laid}
use Rattle.aw_node_list.proofs.chunks.put_in.Goals as goal

pub overflow_sub-place : goal.overflow_sub-place
overflow_sub-place c = omega (arith, start_is c.args.starts.now c.args.list.now c.requires.begins c.args.at 0 c.requires.lies.within, c.requires.lies.from)

pub put-requires-clause-within : goal.put-requires-clause-within
put-requires-clause-within c =
    let same = get_or_default c.args.list.now c.args.at c.index-list-at.result [] c.requires.lies.within in
    omega (arith, start_is c.args.starts.now c.args.list.now c.requires.begins c.args.at 0 c.requires.lies.within, c.requires.lies.to, ap length same)

pub count_up-requires : goal.count_up-requires
count_up-requires c =
    let ss = c.args.starts.now in
    subst (All (λ s. s < 4294967295)) (sym (take_rest ss (c.args.at + 1))) (few_behind ss c.args.list.now c.requires.begins (c.args.at + 1) 4294967295 c.requires.few)

pub returns-clause-items : goal.returns-clause-items
returns-clause-items c =
    let cs = c.args.list.now in
    let i = c.args.at in
    let j = c.args.place - get_or c.args.starts.now i 0 in
    let same = get_or_default cs i c.index-list-at.result [] c.requires.lies.within in
    let start = start_is c.args.starts.now cs c.requires.begins i 0 c.requires.lies.within in
    let m : j ≤ length (chunk_at cs i) = omega (arith, start, c.requires.lies.to) in
    let e : c.args.place ≡ begin_of cs i + j = omega (arith, start, c.requires.lies.from) in
    ap (λ z. concat (set cs i z)) (c.put.ensures ∙ ap (λ z. insert z j c.args.number) same)
    ∙ put_items cs i j c.args.number c.args.place e c.requires.lies.within m

pub returns-clause-begins : goal.returns-clause-begins
returns-clause-begins c =
    let cs = c.args.list.now in
    let ss = c.args.starts.now in
    let i = c.args.at in
    let j = c.args.place - get_or ss i 0 in
    let same = get_or_default cs i c.index-list-at.result [] c.requires.lies.within in
    let start = start_is ss cs c.requires.begins i 0 c.requires.lies.within in
    let m : j ≤ length (chunk_at cs i) = omega (arith, start, c.requires.lies.to) in
    put_laid ss cs c.requires.begins i j c.args.number (length ss - (i + 1)) c.count_up.new.starts c.put.new.self refl c.count_up.ensures
    (c.put.ensures ∙ ap (λ z. insert z j c.args.number) same) c.requires.lies.within m
