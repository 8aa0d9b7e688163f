use Rattle.std.proofs.Common.{◌≡◌, ℕ, zero, suc, List, [], ◌∷◌, get_or, refl, ap, ◌∙◌, arith}
use Rattle.aw_term.specs.Rules.{get}
use Rattle.aw_spec_writer.proofs.names.name_at.Goals as goal

got : (names : List (List ℕ)) (i : ℕ) → get_or names i [] ≡ get [] names i
got [] i = refl
got (x ∷ xs) zero = refl
got (x ∷ xs) (suc i) = got xs i

pub returns-in-Some : goal.returns-in-Some
returns-in-Some c = c.as_slice.ensures ∙ c.in-Some.ensures.lookup.3.1 [] ∙ got c.args.vars.now c.from.result ∙ ap (get [] c.args.vars.now) c.from.ensures

pub returns-in-None : goal.returns-in-None
returns-in-None c = c.in-None.ensures.lookup.4 (omega arith) [] ∙ got c.args.vars.now c.from.result ∙ ap (get [] c.args.vars.now) c.from.ensures
