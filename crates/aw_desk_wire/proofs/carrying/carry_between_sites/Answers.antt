use Rattle.std.proofs.Math.Logic.{∥∥₁_elim, ∥∥₁_map}
use Rattle.std.proofs.Common.{Some, subst}
use Rattle.std.specs.Prelude.{IfOk}
use mathlib.Core.Logic.{∥∥₁_prop}
use Rattle.aw_grammar.specs.GrammarOf.{grammar_of, words_of}
use Rattle.aw_law_nodes.specs.Sizes.{GrammarSized}
use Rattle.aw_desk_wire.specs.Calls.{content_of}
use Rattle.aw_desk_wire.specs.OverSites.{MeansAtSites}
use Rattle.aw_desk_wire.proofs.SinceLemmas.{since-all}
use Rattle.aw_desk_wire.proofs.SiteLemmas.{means-at-sites}
use Rattle.aw_desk_wire.proofs.carrying.carry_between_sites.Goals as goal

pub returns-clause-sites : goal.returns-clause-sites
returns-clause-sites c =
    let a = c.args.g.now in
    let ended = c.carry_since-answer.result.1 in
    subst (λ w. ∥ IfOk c.carry_since-answer.result.0 (MeansAtSites a.grammar (λ w. Some (content_of w.calls)) (λ w. w.starved) (λ w. w.unopened)
    c.args.rounds w ended w.desks.items ended.desks.items) ∥₁) c.replace-begun.ensures.value
    (∥∥₁_elim a.grammar.well_formed ∥∥₁_prop (λ w. ∥∥₁_elim a.sound ∥∥₁_prop (λ s. ∥∥₁_elim c.carry_since-answer.ensures.honest ∥∥₁_prop (λ h. ∥∥₁_map c.carry_since-answer.ensures.world (λ m.
    means-at-sites a.grammar (c.world_laws.ensures.invariant (words_of a.grammar) (grammar_of a.grammar) (w, s)) (c.courier_laws.ensures.honest (words_of a.grammar) (grammar_of a.grammar) (w, s))
    (subst (λ k. GrammarSized (grammar_of k)) c.grammar.ensures.value c.see_rules.ensures) _ _ _ c.args.rounds _ _ _ _ _ m (λ xs p n. since-all _ _ _ _ _ _ _ xs p n h))))))
