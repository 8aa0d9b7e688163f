use Rattle.std.proofs.Common.{◌≤◌, length, ap, subst, ◌∙◌, arith}
use Rattle.std.specs.List.{concat}
use Rattle.aw_node_list.specs.Chunks.{Chunked, IsUnder, LiesIn}
use Rattle.aw_node_list.proofs.ChunkLemmas.{length_starts, first_start, lies_under}
use Rattle.aw_node_list.proofs.chunks.Chunks.find.Goals as goal

pub chunk_under-requires-clause-some : goal.chunk_under-requires-clause-some
chunk_under-requires-clause-some c =
    let laid = c.as_slice.ensures.value ∙ c.self.invariant.begins in
    omega (arith, c.requires.some, ap (λ (r : Chunked). length r.chunks) c.self.view_is, length_starts c.as_slice.result.now c.self.inside.list.items laid)

pub chunk_under-requires-clause-first : goal.chunk_under-requires-clause-first
chunk_under-requires-clause-first c =
    let laid = c.as_slice.ensures.value ∙ c.self.invariant.begins in
    omega (arith, first_start c.as_slice.result.now c.self.inside.list.items laid (omega (arith, c.requires.some, ap (λ (r : Chunked). length r.chunks) c.self.view_is)))

pub returns-clause-lies : goal.returns-clause-lies
returns-clause-lies c =
    let cs = c.self.inside.list.items in
    let laid = c.as_slice.ensures.value ∙ c.self.invariant.begins in
    let all : c.args.place ≤ length (concat cs) = omega (arith, c.requires.place, ap (λ (r : Chunked). length (concat r.chunks)) c.self.view_is) in
    subst (λ (r : Chunked). LiesIn r.chunks c.args.place c.chunk_under.result) c.self.view_is
    (lies_under cs c.args.place c.chunk_under.result (subst (λ s. IsUnder s c.args.place c.chunk_under.result) laid c.chunk_under.ensures) all)
