use Rattle.std.proofs.Common.{◌≡◌, true, false, refl, ap, ◌∙◌}
use Rattle.std.proofs.lemmas.Result.{on_ok_weaker}
use Rattle.aw_term.proofs.ViewLemmas.{term_con}
use Rattle.aw_term.specs.Views.{term_of}
use Rattle.aw_grammar.specs.GrammarOf.{words_of}
use Rattle.aw_spec_writer.proofs.PushingTerms.{bare_added, full_added, made_fits, bare_fits}
use Rattle.aw_spec_writer.proofs.terms.+terms.Goals as goal

pub push_term-returns-then-is_empty-clause-text : goal.push_term-returns-then-is_empty-clause-text
push_term-returns-then-is_empty-clause-text t c =
    bare_added term_of (words_of c.args.g.now).cons c.args.vars.now _ _ _ _ _ _ (ap term_of c.in-Con.is ∙ term_con c.in-Con.con c.in-Con.parts)
    (c.if-is_empty.ensures.0 refl) c.con_name.ensures c.in_ok-push_bytes-in-Con.ensures.ok

pub push_term-returns-then-is_empty-clause-numbers : goal.push_term-returns-then-is_empty-clause-numbers
push_term-returns-then-is_empty-clause-numbers t c =
    bare_fits term_of _ _ _ (ap term_of c.in-Con.is ∙ term_con c.in-Con.con c.in-Con.parts) (c.if-is_empty.ensures.0 refl)

pub push_term-returns-in_ok-push_terms-in-Con-clause-text : goal.push_term-returns-in_ok-push_terms-in-Con-clause-text
push_term-returns-in_ok-push_terms-in-Con-clause-text t c =
    on_ok_weaker c.push_bytes-in-Con-3.result
    (full_added term_of (words_of c.args.g.now).cons c.args.vars.now _ _ _ _ _ _ _ _ _ (ap term_of c.in-Con.is ∙ term_con c.in-Con.con c.in-Con.parts)
    (λ e. let no : false ≡ true = c.if-is_empty.ensures.1 e in absurd cc) c.con_name.ensures
    c.in_ok-push_bytes-in-Con.ensures.ok c.in_ok-push_bytes-in-Con-2.ensures.ok c.in_ok-push_terms-in-Con.ensures.text) c.push_bytes-in-Con-3.ensures.ok

pub push_term-returns-in_ok-push_terms-in-Con-clause-numbers : goal.push_term-returns-in_ok-push_terms-in-Con-clause-numbers
push_term-returns-in_ok-push_terms-in-Con-clause-numbers t c =
    on_ok_weaker c.push_bytes-in-Con-3.result (λ e. made_fits term_of _ _ _ (ap term_of c.in-Con.is ∙ term_con c.in-Con.con c.in-Con.parts)
    c.in_ok-push_terms-in-Con.ensures.numbers) c.push_bytes-in-Con-3.ensures.ok
