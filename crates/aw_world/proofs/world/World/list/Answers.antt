use Rattle.std.proofs.Common.{◌≡◌, ◌∙◌, map}
use Rattle.std.proofs.lemmas.Result.{IfOk-weaker}
use Rattle.aw_choice.specs.ChoiceView.{item_of}
use Rattle.aw_grammar.specs.GrammarOf.{grammar_of}
use Rattle.aw_law_sites.specs.Worklists.{site_worklist}
use Rattle.aw_law_sites.specs.Worlds as V
use Rattle.aw_term.proofs.GrammarTests.{grammars_are_one}
use Rattle.aw_world.specs.Shown.{Shows}
use Rattle.aw_world.proofs.world.World.list.Goals as goal

pub returns : goal.returns
returns g c =
    let w = c.args.self.now in
    IfOk-weaker c.list.result _ (λ items. (v : V.World) → Shows g.W.Workspace w v → map item_of items ≡ site_worklist
    (grammar_of w.accepted.now.grammar) (V.site_at v c.args.role).equations (V.site_at v c.args.role).held)
    (λ items h v S. h
    ∙ (λ i. site_worklist (grammars_are_one _ _ c.site.ensures.grammar i) (c.site.ensures.shows v S i).equations (c.site.ensures.shows v S i).held)) c.list.ensures
