use Rattle.std.proofs.Common.{◌≡◌, ◌∙◌, map, ap, sym, subst, true, All}
use Rattle.std.specs.Prelude.{IfOk}
use Rattle.aw_grammar.specs.GrammarOf.{grammar_of}
use Rattle.aw_space.specs.Children.{own_children, are_named}
use Rattle.aw_space.specs.Openings.{IsOpenable, held_in}
use Rattle.aw_space.proofs.Costing.{own_openable}
use Rattle.aw_space.proofs.space.Space.ready_own.Goals as goal

pub own_children-requires : goal.own_children-requires
own_children-requires g c = subst (λ x. are_named (grammar_of x) c.args.children ≡ true) (sym c.grammar-grammar.ensures.value) c.requires.children.named

pub take_room-requires-clause-own : goal.take_room-requires-clause-own
take_room-requires-clause-own g c =
    let old = c.args.self.now in
    let gr = grammar_of old.accepted.now.grammar in
    let is = c.in_ok-own.ensures ∙ ap (λ x. own_children (grammar_of x) old.role c.args.children) c.grammar-grammar.ensures.value in
    subst (All (IsOpenable gr)) (sym is) (own_openable gr old.role c.args.children c.requires.children.own)

pub returns-clause-own : goal.returns-clause-own
returns-clause-own g c =
    let is = c.in_ok-own.ensures ∙ ap (λ x. own_children (grammar_of x) c.args.self.now.role c.args.children) c.grammar-grammar.ensures.value in
    subst (λ hs. IfOk c.take_room.result (λ more. map held_in more.items ≡ hs)) is c.take_room.ensures.own
