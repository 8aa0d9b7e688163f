use Rattle.std.proofs.Common.{◌≡◌, ◌∙◌, true, ap, sym, subst}
use Rattle.std.proofs.lemmas.Result.{IfOk-weaker}
use Rattle.aw_grammar.specs.GrammarOf.{grammar_of}
use Rattle.aw_name.specs.declared.node.Ref.{Ref}
use Rattle.aw_store.specs.EquationView.{body_of}
use Rattle.aw_law_sites.specs.Telling.{tell}
use Rattle.aw_law_sites.specs.ValidNames.{equation_ok}
use Rattle.aw_site.proofs.sender.Sender.tell_body.Goals as goal

pub tell-told-requires : goal.tell-told-requires
tell-told-requires g c =
    let gr = grammar_of c.args.self.now.grammar.now in
    subst (λ (x : Ref). equation_ok gr (record { left = x; body = body_of c.args.body }) ≡ true) (sym c.in-Ok.ensures) c.requires

pub returns-in-Ok : goal.returns-in-Ok
returns-in-Ok g c =
    let gr = grammar_of c.args.self.now.grammar.now in
    IfOk-weaker c.tell-told.result _ _ (λ m h s sends. h s sends ∙ ap (λ (x : Ref). tell gr s (record { left = x; body = body_of c.args.body }) c.args.role) c.in-Ok.ensures) c.tell-told.ensures
