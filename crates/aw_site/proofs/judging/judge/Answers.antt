use Rattle.std.proofs.Common.{◌∙◌, ap, sym, subst, option_map}
use Rattle.aw_msg.specs.MessageView.{plain_kind}
use Rattle.aw_site_repeat.specs.Holders.{IsOfRole}
use Rattle.aw_site.specs.Views.{clash_of}
use Rattle.aw_site.proofs.Holding.{ok_by, mine_by, clash_by, repeat_by, of_role}
use Rattle.aw_site.proofs.judging.judge.Goals as goal

pub returns-then-not-message_ok : goal.returns-then-not-message_ok
returns-then-not-message_ok g c = λ loads s h.
    ok_by g.F.Facts c.args.space.now c.args.subs.now loads s c.args.g.now.grammar c.requires.grammar h c.args.m.now c.grammar-grammar.result.now
    c.role-role.result _ c.grammar-grammar.ensures.value c.role-role.ensures c.message_ok.ensures
    ∙ c.if-not-message_ok.true

pub returns-then-not-is_mine : goal.returns-then-not-is_mine
returns-then-not-is_mine g c = λ loads s h. (
  ok_by g.F.Facts c.args.space.now c.args.subs.now loads s c.args.g.now.grammar c.requires.grammar h c.args.m.now c.grammar-grammar.result.now
      c.role-role.result _ c.grammar-grammar.ensures.value c.role-role.ensures c.message_ok.ensures
      ∙ c.if-not-message_ok.false,
  mine_by g.F.Facts c.args.space.now c.args.subs.now loads s c.args.g.now.grammar c.requires.grammar h c.args.m.now c.grammar-grammar.result.now
      c.role-role.result _ c.grammar-grammar.ensures.value c.role-role.ensures c.is_mine.ensures
      ∙ c.if-not-is_mine.true,
)

pub returns-in-Some : goal.returns-in-Some
returns-in-Some g c = λ loads s h. (
  ok_by g.F.Facts c.args.space.now c.args.subs.now loads s c.args.g.now.grammar c.requires.grammar h c.args.m.now c.grammar-grammar.result.now
      c.role-role.result _ c.grammar-grammar.ensures.value c.role-role.ensures c.message_ok.ensures
      ∙ c.if-not-message_ok.false,
  mine_by g.F.Facts c.args.space.now c.args.subs.now loads s c.args.g.now.grammar c.requires.grammar h c.args.m.now c.grammar-grammar.result.now
      c.role-role.result _ c.grammar-grammar.ensures.value c.role-role.ensures c.is_mine.ensures
      ∙ c.if-not-is_mine.false,
  clash_by g.F.Facts c.args.space.now c.args.subs.now loads s c.args.g.now.grammar c.requires.grammar h c.args.m.now.kind c.get.result.now
      c.nodes.result.now.items c.facts.result.now c.in_ok-clash.field-0 c.get.ensures c.nodes.ensures c.facts.ensures c.in_ok-clash.ensures
      ∙ ap (option_map clash_of) c.in-Some.is,
)

pub is_repeat-requires-clause-role : goal.is_repeat-requires-clause-role
is_repeat-requires-clause-role g c =
    subst (λ k. IsOfRole (plain_kind k)) (sym c.get-2.ensures) (of_role c.grammar-grammar.result.now c.role-role.result c.args.m.now (sym c.message_ok.ensures ∙ c.if-not-message_ok.false))

pub returns-then-is_repeat : goal.returns-then-is_repeat
returns-then-is_repeat g c = λ loads s h. (
  ok_by g.F.Facts c.args.space.now c.args.subs.now loads s c.args.g.now.grammar c.requires.grammar h c.args.m.now c.grammar-grammar.result.now
      c.role-role.result _ c.grammar-grammar.ensures.value c.role-role.ensures c.message_ok.ensures
      ∙ c.if-not-message_ok.false,
  mine_by g.F.Facts c.args.space.now c.args.subs.now loads s c.args.g.now.grammar c.requires.grammar h c.args.m.now c.grammar-grammar.result.now
      c.role-role.result _ c.grammar-grammar.ensures.value c.role-role.ensures c.is_mine.ensures
      ∙ c.if-not-is_mine.false,
  clash_by g.F.Facts c.args.space.now c.args.subs.now loads s c.args.g.now.grammar c.requires.grammar h c.args.m.now.kind c.get.result.now
      c.nodes.result.now.items c.facts.result.now c.in_ok-clash.field-0 c.get.ensures c.nodes.ensures c.facts.ensures c.in_ok-clash.ensures
      ∙ ap (option_map clash_of) c.in_default.is,
  repeat_by g.F.Facts c.args.space.now c.args.subs.now loads s c.args.g.now.grammar c.requires.grammar h c.args.m.now.kind c.get-2.result.now
      c.nodes-2.result.now.items c.facts-2.result.now c.is_repeat.result c.get-2.ensures c.nodes-2.ensures c.facts-2.ensures c.is_repeat.ensures
      ∙ c.if-is_repeat.true,
)

pub returns : goal.returns
returns g c = λ loads s h. record {
  ok =
      ok_by g.F.Facts c.args.space.now c.args.subs.now loads s c.args.g.now.grammar c.requires.grammar h c.args.m.now c.grammar-grammar.result.now
      c.role-role.result _ c.grammar-grammar.ensures.value c.role-role.ensures c.message_ok.ensures
      ∙ c.if-not-message_ok.false;
  mine =
      mine_by g.F.Facts c.args.space.now c.args.subs.now loads s c.args.g.now.grammar c.requires.grammar h c.args.m.now c.grammar-grammar.result.now
      c.role-role.result _ c.grammar-grammar.ensures.value c.role-role.ensures c.is_mine.ensures
      ∙ c.if-not-is_mine.false;
  free =
      clash_by g.F.Facts c.args.space.now c.args.subs.now loads s c.args.g.now.grammar c.requires.grammar h c.args.m.now.kind c.get.result.now
      c.nodes.result.now.items c.facts.result.now c.in_ok-clash.field-0 c.get.ensures c.nodes.ensures c.facts.ensures c.in_ok-clash.ensures
      ∙ ap (option_map clash_of) c.in_default.is;
  new =
      repeat_by g.F.Facts c.args.space.now c.args.subs.now loads s c.args.g.now.grammar c.requires.grammar h c.args.m.now.kind c.get-2.result.now
      c.nodes-2.result.now.items c.facts-2.result.now c.is_repeat.result c.get-2.ensures c.nodes-2.ensures c.facts-2.ensures c.is_repeat.ensures
      ∙ c.if-is_repeat.false;
}
