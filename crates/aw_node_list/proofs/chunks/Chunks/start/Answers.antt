use Rattle.std.proofs.Common.{◌<◌, length, ap, ◌∙◌, arith}
use Rattle.std.proofs.lemmas.List.{get_or_read}
use Rattle.aw_node_list.specs.Chunks.{Chunked, begin_of}
use Rattle.aw_node_list.proofs.ChunkLemmas.{length_starts, start_is}
use Rattle.aw_node_list.proofs.chunks.Chunks.start.Goals as goal

pub index-requires : goal.index-requires
index-requires c =
    omega (arith, c.requires, ap (λ (r : Chunked). length r.chunks) c.self.view_is, length_starts c.self.inside.starts.items c.self.inside.list.items c.self.invariant.begins, c.self.inside.starts.ok)

pub returns : goal.returns
returns c =
    let ss = c.self.inside.starts.items in
    let cs = c.self.inside.list.items in
    let here : c.args.at < length cs = omega (arith, c.requires, ap (λ (r : Chunked). length r.chunks) c.self.view_is) in
    get_or_read ss c.args.at c.index.result.now (omega (arith, here, length_starts ss cs c.self.invariant.begins)) c.index.ensures 0
    ∙ start_is ss cs c.self.invariant.begins c.args.at 0 here
    ∙ ap (λ (r : Chunked). begin_of r.chunks c.args.at) c.self.view_is
