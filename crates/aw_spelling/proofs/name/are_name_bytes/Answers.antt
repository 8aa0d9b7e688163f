use Rattle.std.proofs.Common.{◌∙◌, ap, eqb, length}
use Rattle.aw_spelling.specs.Spelling.{is_name_byte}
use Rattle.aw_spelling.proofs.ByteRuns.{all_by_prefix}
use Rattle.aw_spelling.proofs.name.are_name_bytes.Goals as goal

pub returns : goal.returns
returns c = let bs = c.args.b.now in ap (λ n. eqb n (length bs)) c.name_len.ensures.value ∙ all_by_prefix is_name_byte bs
