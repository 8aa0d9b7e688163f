use Rattle.std.proofs.Common.{◌∙◌, ap, get_or, true}
use Rattle.std.proofs.Math.ListN.{set}
use Rattle.aw_grammar.proofs.Declared.{set_starts}
use Rattle.aw_grammar.proofs.build.start_at.Goals as goal

pub returns : goal.returns
returns c =
    let s = c.index_mut.result.now in
    c.from_vec.ensures
    ∙ ap (λ ss. set ss c.args.place (record s { start = true })) c.into_vec-sorts.ensures
    ∙ set_starts c.args.sorts c.args.place s (c.index_mut.ensures.value ∙ ap (λ ss. get_or ss c.args.place s) c.into_vec-sorts.ensures) c.requires
