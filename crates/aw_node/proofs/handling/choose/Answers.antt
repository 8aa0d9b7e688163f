use Rattle.std.proofs.Common.{◌≡◌, true, sym, ◌∙◌}
use Rattle.aw_base.specs.ChoiceFits.{choice_ok}
use Rattle.aw_choice.specs.ChoiceView.{choice_of}
use Rattle.aw_grammar.specs.GrammarOf.{grammar_of}
use Rattle.aw_typed.specs.TypeFaults.{arg_ok}
use Rattle.aw_typed.specs.Typing.{types_of}
use Rattle.aw_law_sites.specs.Homes.{home}
use Rattle.aw_law_sites.specs.Worlds.{node_of}
use Rattle.aw_node.specs.TypedNodes.{rules_of}
use Rattle.aw_node.proofs.Choices.{choice-taken}
use Rattle.aw_node.proofs.handling.choose.Goals as goal

pub returns-clause-answer : goal.returns-clause-answer
returns-clause-answer g c s shown =
    let ok : choice_ok (grammar_of c.args.g.now.grammar) (choice_of c.args.c.now) ≡ true = sym (rw c.grammar.ensures.value at c.choice_ok.ensures) ∙ c.if-not-choice_ok.false in
    let fits : arg_ok (types_of c.args.t.now.types) (grammar_of c.args.g.now.grammar) (choice_of c.args.c.now) ≡ true = sym (c.arg_ok.ensures _ c.requires.types) ∙ c.if-not-arg_ok.false in
    let here : home (grammar_of c.args.g.now.grammar) (node_of (choice_of c.args.c.now)) ≡ s.role =
    (rw c.grammar-2.ensures.value at c.role_of_choice.ensures) ∙ c.if-role_of_choice-role.false ∙ c.role.ensures s shown in
    choice-taken (rules_of c.args.g.now.grammar c.args.t.now) s (choice_of c.args.c.now) (g.P.NodeWorkspace.shows c.choose.new.self) _ ok fits here
    (c.in_ok-choose.ensures.answer s shown) (c.in_ok-choose.ensures.site s shown)
