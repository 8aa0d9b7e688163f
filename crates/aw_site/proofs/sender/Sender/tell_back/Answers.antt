use Rattle.std.proofs.Common.{◌∙◌, ◌∷◌, [], ◌++◌, ap, sym, map, option_map}
use Rattle.aw_grammar.specs.GrammarOf.{grammar_of}
use Rattle.aw_store.specs.EquationView.{body_of, equation_of}
use Rattle.aw_law_sites.specs.Telling.{tell_back}
use Rattle.aw_site.proofs.SentNames.{found_ok}
use Rattle.aw_site.proofs.sender.Sender.tell_back.Goals as goal

pub tell_body-requires : goal.tell_body-requires
tell_body-requires g c =
    let sender = c.args.self.now in
    let gr = grammar_of sender.grammar.now in
    found_ok gr (g.F.Facts.map sender.facts.now ++ map equation_of sender.more.now) c.args.r.now (body_of c.in-Some.body) sender.valid (sym c.in_ok-body.ensures ∙ ap (option_map body_of) c.in-Some.is)

pub returns-in_ok-tell_body-in-Some : goal.returns-in_ok-tell_body-in-Some
returns-in_ok-tell_body-in-Some g c = λ s sends.
    let gr = grammar_of c.args.self.now.grammar.now in
    ap (λ m. m ∷ []) (c.in_ok-tell_body-in-Some.ensures s sends)
    ∙ ap (λ o. tell_back gr s o c.args.r.now c.args.from) (sym (sends.equations c.args.r.now ∙ sym c.in_ok-body.ensures ∙ ap (option_map body_of) c.in-Some.is))
