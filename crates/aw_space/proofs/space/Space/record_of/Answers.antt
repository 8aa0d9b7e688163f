use Rattle.std.proofs.Common.{◌≡◌, true, sym, subst}
use Rattle.std.specs.Prelude.{IfOk}
use Rattle.aw_term.specs.Rules.{sort_of}
use Rattle.aw_grammar.specs.GrammarOf.{grammar_of}
use Rattle.aw_law_sites.specs.ValidNames.{takes_as}
use Rattle.aw_space.specs.Openings.{IsReady}
use Rattle.aw_space.proofs.Stills.{step_named}
use Rattle.aw_space.proofs.space.Space.record_of.Goals as goal

pub ready-requires-clause-takes : goal.ready-requires-clause-takes
ready-requires-clause-takes g c =
    subst (λ x. takes_as (grammar_of x) (sort_of (grammar_of x) c.args.node.node) c.args.node.inherited ≡ true) (sym c.grammar-grammar.ensures.value) c.requires.takes

pub returns-clause-ready : goal.returns-clause-ready
returns-clause-ready g c =
    subst (λ x. IfOk c.ready.result (IsReady (grammar_of x) (g.F.Facts.names c.ready.new.facts))) c.grammar-grammar.ensures.value c.ready.ensures.ready

pub invariant_of-self : goal.invariant_of-self
invariant_of-self g c =
    let old = c.args.self.now in
    let s = step_named (grammar_of old.accepted.now.grammar) old.role old.held _ _ old.kept old.sound old.valid old.stands _ _ c.ready.ensures.map c.ready.ensures.names in
    record { sound = s.sound; valid = s.valid; stands = s.stands }
