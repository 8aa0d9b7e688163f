use Rattle.std.proofs.Common.{ℕ, refl, bit_or}
use Rattle.std.proofs.lemmas.Simd.{zip2_splat, zip2_of_maps, length-chunk}
use lib.Lanes.{chunk}
use Rattle.aw_spelling.specs.Spelling.{stands_for_itself}
use Rattle.aw_spelling.proofs.ByteRuns.{counted}
use Rattle.aw_spelling.proofs.lanes.plain_lanes.Goals as goal

pub returns : goal.returns
returns c =
    let v = chunk c.args.at 16 c.args.bytes.now in
    let long = length-chunk c.args.at 16 c.args.bytes.now c.requires in
    counted stands_for_itself c.args.bytes.now c.args.at _ _ c.requires c.type_inv.bytes c.first_set.ensures _
    (zip2_of_maps bit_or _ _ v (zip2_of_maps bit_or _ _ v (zip2_of_maps bit_or _ _ v (zip2_splat {Y = ℕ} _ v 16 32 long)
    (zip2_splat {Y = ℕ} _ v 16 34 long)) (zip2_splat {Y = ℕ} _ v 16 92 long)) (zip2_splat {Y = ℕ} _ v 16 127 long)) refl
