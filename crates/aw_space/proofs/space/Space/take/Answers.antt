use Rattle.std.proofs.Common.{◌≡◌, ◌+◌, ◌≤◌, sym, subst}
use Rattle.std.specs.Prelude.{OnOk}
use Rattle.aw_grammar.specs.GrammarOf.{grammar_of}
use Rattle.aw_choice.specs.ChoiceView.{choice_of}
use Rattle.aw_space.specs.Seen.{choice_cost_at, space_seen}
use Rattle.aw_space.specs.Spaces.{space_after}
use Rattle.aw_space.proofs.CarryingOut.{chosen_by}
use Rattle.aw_space.proofs.space.Space.take.Goals as goal

pub carry_out-requires : goal.carry_out-requires
carry_out-requires g c =
    chosen_by g.F.Facts c.args.self.now (choice_of c.args.choice.now) c.args.made c.args.g.now.grammar c.requires.grammar c.requires.ok c.requires.here c.requires.taken c.requires.made

pub returns-clause-space : goal.returns-clause-space
returns-clause-space g c =
    let old = c.args.self.now in
    let f = g.F.Facts in
    subst (λ x. OnOk c.carry_out.result (space_seen f c.carry_out.new.self ≡ space_after (grammar_of x) old.role (space_seen f old) (choice_of c.args.choice.now))) (sym c.requires.grammar)
    c.carry_out.ensures.space

pub returns-clause-steps : goal.returns-clause-steps
returns-clause-steps g c =
    subst (λ x. c.carry_out.new.steps + 1 ≤ c.args.steps.now + choice_cost_at g.F.Facts (grammar_of x) c.args.self.now (choice_of c.args.choice.now)) (sym c.requires.grammar) c.carry_out.ensures.steps
