use Rattle.std.proofs.Common.{◌≡◌, ◌<◌, ◌+◌, ◌-◌, [], length, get_or, slice_get, sym, ap, subst, ◌∙◌, arith, rules}
use Rattle.std.proofs.lemmas.List.{get_or_read}
use Rattle.aw_node_list.specs.Chunks.{begin_of, chunk_at, IsUnder}
use Rattle.aw_node_list.proofs.ChunkLemmas.{length_starts, start_is, first_start, some_chunk, inside, get_number}
use Rattle.aw_node_list.proofs.chunks.number_at.Goals as goal

pub chunk_under-at-requires-clause-some : goal.chunk_under-at-requires-clause-some
chunk_under-at-requires-clause-some c =
    omega (arith, length_starts c.args.starts.now c.args.list.now c.requires.begins, some_chunk c.args.list.now c.args.place c.requires.place)

pub chunk_under-at-requires-clause-first : goal.chunk_under-at-requires-clause-first
chunk_under-at-requires-clause-first c =
    omega (arith, first_start c.args.starts.now c.args.list.now c.requires.begins (some_chunk c.args.list.now c.args.place c.requires.place))

pub offset_bounds-list-at : goal.offset_bounds-list-at
offset_bounds-list-at c =
    let within : c.chunk_under-at.result < length c.args.list.now = omega (arith, c.chunk_under-at.ensures.within, length_starts c.args.starts.now c.args.list.now c.requires.begins) in
    search rules

pub bounds-list-at : goal.bounds-list-at
bounds-list-at c = omega (arith, c.chunk_under-at.ensures.within, length_starts c.args.starts.now c.args.list.now c.requires.begins)

pub at-requires : goal.at-requires
at-requires c =
    let cs = c.args.list.now in
    let i = c.chunk_under-at.result in
    let here : i < length cs = omega (arith, c.chunk_under-at.ensures.within, length_starts c.args.starts.now cs c.requires.begins) in
    let under = subst (λ s. IsUnder s c.args.place i) c.requires.begins c.chunk_under-at.ensures in
    let same = get_or_read cs i c.index-list-at.result here c.index-list-at.is [] in
    omega (arith, inside cs c.args.place i under c.requires.place, start_is c.args.starts.now cs c.requires.begins i 0 here, c.chunk_under-at.ensures.from, ap length same)

pub returns : goal.returns
returns c =
    let cs = c.args.list.now in
    let i = c.chunk_under-at.result in
    let j = c.args.place - get_or c.args.starts.now i 0 in
    let here : i < length cs = omega (arith, c.chunk_under-at.ensures.within, length_starts c.args.starts.now cs c.requires.begins) in
    let under = subst (λ s. IsUnder s c.args.place i) c.requires.begins c.chunk_under-at.ensures in
    let same = get_or_read cs i c.index-list-at.result here c.index-list-at.is [] in
    let start = start_is c.args.starts.now cs c.requires.begins i 0 here in
    let e : c.args.place ≡ begin_of cs i + j = omega (arith, start, c.chunk_under-at.ensures.from) in
    let l : j < length (chunk_at cs i) = omega (arith, inside cs c.args.place i under c.requires.place, start, c.chunk_under-at.ensures.from) in
    get_number cs i j c.args.place e here l ∙ ap (λ z. slice_get z j) (sym same) ∙ c.at.ensures
