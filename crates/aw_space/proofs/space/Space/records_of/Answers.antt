use Rattle.std.proofs.Common.{sym, subst, All}
use Rattle.std.specs.Prelude.{IfOk}
use Rattle.aw_grammar.specs.GrammarOf.{grammar_of}
use Rattle.aw_space.specs.Openings.{IsOpenable, IsReady}
use Rattle.aw_space.proofs.Stills.{step_named}
use Rattle.aw_space.proofs.space.Space.records_of.Goals as goal

pub all_ready-requires : goal.all_ready-requires
all_ready-requires g c = subst (λ x. All (IsOpenable (grammar_of x)) c.args.own.items) (sym c.grammar-grammar.ensures.value) c.requires

pub returns-clause-ready : goal.returns-clause-ready
returns-clause-ready g c =
    let names = g.F.Facts.names c.all_ready.new.facts in
    subst (λ x. IfOk c.all_ready.result (λ more. All (IsReady (grammar_of x) names) more.items)) c.grammar-grammar.ensures.value c.all_ready.ensures.ready

pub invariant_of-self : goal.invariant_of-self
invariant_of-self g c =
    let old = c.args.self.now in
    let s = step_named (grammar_of old.accepted.now.grammar) old.role old.held _ _ old.kept old.sound old.valid old.stands _ _ c.all_ready.ensures.map c.all_ready.ensures.names in
    record { sound = s.sound; valid = s.valid; stands = s.stands }
