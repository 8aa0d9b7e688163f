-- A constructor of a valid equation has at most 8 references.
use Rattle.std.proofs.Common.{◌≡◌, ℕ, zero, suc, ◌≤◌, true, List, [], ◌∷◌, length, refl, arith}
use Rattle.std.specs.Prelude.{nat_le}
use Rattle.std.proofs.Math.Logic.{∥∥₁_elim}
use Rattle.std.proofs.Math.Bool.{Bool-set}
use Rattle.std.proofs.lemmas.Bool.{and_parts, and_from, eqb-true, le-leb}
use Rattle.aw_term.specs.Trees.{Head, Con, Num, Text}
use Rattle.aw_term.specs.Rules as P
use Rattle.aw_term.specs.WellFormed.{Each, head_fits}
use Rattle.aw_term.specs.Limits.{most_parts}
use Rattle.aw_base.specs.ChoiceFits.{ref_ok}
use Rattle.aw_grammar.specs.declared.grammar.Grammar.{Grammar}
use Rattle.aw_grammar.specs.GrammarOf.{grammar_of}
use Rattle.aw_store.specs.Equations.{Body, Same, Is, Equation, mentions}
use Rattle.aw_store.specs.StoreView.{has_few, all_few}
use Rattle.aw_law_sites.specs.ValidNames.{refs_ok, body_ok, equation_ok, equations_ok}

pub few_parts : (arities : List ℕ) (c n : ℕ) → Each (λ m. m ≤ most_parts) arities → head_fits arities (Con c) n ≡ true → n ≤ most_parts
few_parts [] c n few e = absurd cc
few_parts (m ∷ ms) zero n few e = omega (arith, few.0, eqb-true m n e)
few_parts (m ∷ ms) (suc c) n few e = few_parts ms c n few.1 e

few_below : (arities : List ℕ) (h : Head) (n : ℕ) → Each (λ m. m ≤ most_parts) arities → head_fits arities h n ≡ true → n ≤ most_parts
few_below arities (Con c) n few e = few_parts arities c n few e
few_below arities (Num m) n few e = omega (arith, eqb-true n 0 e)
few_below arities (Text t) n few e = omega (arith, eqb-true n 0 (and_parts _ _ e).0)

few_body : (g : P.Grammar) (b : Body) → Each (λ m. m ≤ most_parts) g.arities → body_ok g b ≡ true → nat_le (length (mentions b)) most_parts ≡ true
few_body g (Same r) few e = refl
few_body g (Is h rs) few e = le-leb (length rs) most_parts (few_below g.arities h (length rs) few (and_parts (head_fits g.arities h (length rs)) (refs_ok g rs) e).0)

pub few_valid : (g : Grammar) (e : Equation) → equation_ok (grammar_of g) e ≡ true → has_few e ≡ true
few_valid g e ok = ∥∥₁_elim g.well_formed (Bool-set _ _) (λ w. few_body (grammar_of g) e.body w.arities (and_parts (ref_ok (grammar_of g) e.left) _ ok).1)

pub all_few_valid : (g : Grammar) (es : List Equation) → equations_ok (grammar_of g) es ≡ true → all_few es ≡ true
all_few_valid g [] ok = refl
all_few_valid g (e ∷ es) ok = let (a, b) = and_parts (equation_ok (grammar_of g) e) _ ok in and_from _ _ (few_valid g e a) (all_few_valid g es b)
