use Rattle.std.proofs.Common.{ap, sym, ◌∙◌}
use Rattle.std.proofs.lemmas.Bool.Decides.{same_from_decides}
use Rattle.aw_term.specs.Views.{head_of}
use Rattle.aw_store.specs.NamedRefs.{body_at}
use Rattle.aw_apply.specs.Named.{is_head}
use Rattle.aw_term.proofs.HeadTests.{nats_Decides}
use Rattle.aw_apply.proofs.GuardLemmas.{is_text}
use Rattle.aw_apply.proofs.guarding.is_lit.Goals as goal

pub returns-in-Text-lit-2 : goal.returns-in-Text-lit-2
returns-in-Text-lit-2 g c =
    let names = g.F.Facts.names c.args.f.now in
    let b = body_at (g.F.Facts.map c.args.f.now) names c.args.slot in
    same_from_decides _ _ c.is_same_text.ensures (nats_Decides c.in-Text-lit-2.t c.text.result.now)
    ∙ is_text names b c.in-Text-lit-2.t c.text.result.now c.in-Text.ensures c.text.ensures
    ∙ ap (λ l. is_head (head_of l) 0 b) (sym c.in-Text-lit-2.is)
