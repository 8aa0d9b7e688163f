use Rattle.std.proofs.Common.{ap, sym, subst}
use Rattle.aw_grammar.specs.GrammarOf.{grammar_of}
use Rattle.aw_choice.specs.ChoiceView.{choice_of}
use Rattle.aw_term.specs.Choices.{answer_of}
use Rattle.aw_law_sites.specs.Worlds.{node_of}
use Rattle.aw_space.specs.Keeping.{KeepsFacts, KeepsNodesBut}
use Rattle.aw_space.specs.Seen.{space_seen}
use Rattle.aw_space.specs.Spaces as P
use Rattle.aw_space.specs.Spaces.{outcome}
use Rattle.aw_space.proofs.Refused.{told_refused, refused_stays}
use Rattle.aw_space.proofs.Staying.{facts_after, nodes_after}
use Rattle.aw_space.proofs.space.Space.follow.Goals as goal

pub returns-then-not-is_taken-clause-space : goal.returns-then-not-is_taken-clause-space
returns-then-not-is_taken-clause-space g c =
    let gr = grammar_of c.args.g.now.grammar in
    let s = space_seen g.F.Facts c.args.self.now in
    let ch = choice_of c.args.choice.now in
    sym (refused_stays gr c.args.self.now.role s ch
    (told_refused c.is_taken.result c.args.foreseen.now.answer (answer_of (outcome gr s ch)) c.is_taken.ensures c.requires.foreseen.answer c.if-not-is_taken.true))

pub returns-clause-facts : goal.returns-clause-facts
returns-clause-facts g c =
    let s = space_seen g.F.Facts c.args.self.now in
    let e = c.in_ok-take.ensures.space in
    subst (KeepsFacts s.equations) (sym (ap (λ (x : P.Space). x.equations) e)) (facts_after (grammar_of c.args.g.now.grammar) c.args.self.now.role s (choice_of c.args.choice.now))

pub returns-clause-nodes : goal.returns-clause-nodes
returns-clause-nodes g c =
    let s = space_seen g.F.Facts c.args.self.now in
    let e = c.in_ok-take.ensures.space in
    subst (KeepsNodesBut (node_of (choice_of c.args.choice.now)) s.held) (sym (ap (λ (x : P.Space). x.held) e))
    (nodes_after (grammar_of c.args.g.now.grammar) c.args.self.now.role s (choice_of c.args.choice.now))
