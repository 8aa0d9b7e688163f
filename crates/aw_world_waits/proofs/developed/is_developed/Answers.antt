use Rattle.std.proofs.Common.{◌≡◌, arith, ap, ◌∙◌, subst}
use Rattle.std.specs.Option.{unwrap_or}
use Rattle.aw_term.proofs.GrammarTests.{grammars_are_one}
use Rattle.aw_term.specs.Rules.{home_of}
use Rattle.aw_grammar.specs.GrammarOf.{grammar_of}
use Rattle.aw_node_list.specs.HeldView.{all_of}
use Rattle.aw_law_sites.specs.Homes.{home}
use Rattle.aw_law_sites.specs.Worlds as V
use Rattle.aw_world_waits.specs.Waiters.{holds_done}
use Rattle.aw_world_waits.proofs.Worlds.{developed_nowhere, developed_there}
use Rattle.aw_world_waits.proofs.developed.is_developed.Goals as goal

pub returns-then-from-len : goal.returns-then-from-len
returns-then-from-len g c =
    let f = g.W.Workspace in
    let w = c.args.world.now in
    let n = c.args.node.now in
    let p = grammar_of w.accepted.now.grammar in
    let same : c.grammar-g.result.now ≡ w.accepted.now.grammar = c.grammar-g.ensures.value ∙ ap (λ a. a.grammar) c.accepted.ensures in
    let at_home : c.unwrap_or-role.result ≡ home p n = c.unwrap_or-role.ensures ∙ ap (λ o. unwrap_or o 0) (c.home_of.ensures.value ∙ ap (λ d. home_of (grammar_of d) n) same) in
    c.holds_done.ensures p ∙ ap (λ hs. holds_done n (all_of p hs)) c.nodes.ensures
    ∙ developed_there f w g.met.W.Workspace.holds n c.site.result.now (λ v S. subst (λ role. f.seen c.site.result.now ≡ V.site_at v role) at_home
    (c.site.ensures.shows v S)) (grammars_are_one _ p c.site.ensures.grammar)

pub returns-else-from-len : goal.returns-else-from-len
returns-else-from-len g c =
    let f = g.W.Workspace in
    let w = c.args.world.now in
    let n = c.args.node.now in
    let p = grammar_of w.accepted.now.grammar in
    let same : c.grammar-g.result.now ≡ w.accepted.now.grammar = c.grammar-g.ensures.value ∙ ap (λ a. a.grammar) c.accepted.ensures in
    let at_home : c.unwrap_or-role.result ≡ home p n = c.unwrap_or-role.ensures ∙ ap (λ o. unwrap_or o 0) (c.home_of.ensures.value ∙ ap (λ d. home_of (grammar_of d) n) same) in
    let roles : c.len.result ≡ p.roles = c.len.ensures ∙ ap (λ d. (grammar_of d).roles) same in
    developed_nowhere f w n (omega (arith, c.if-from-len.false, c.from.ensures, roles, at_home))
