-- The declarations of the trial: nothing is wrong with them, and no value can come to depend on itself.
use Rattle.std.proofs.Common.{◌≡◌, ℕ, suc, List, [], ◌∷◌, ◌++◌, map, Result, Ok, Err, Some, None, refl, ap, sym, ◌∙◌, subst}
use Rattle.std.specs.Prelude.{IfOk, Option}
use Rattle.aw_grammar.specs.declared.raw.RawTerm.{RawTerm}
use Rattle.aw_grammar.specs.declared.raw.RawTerm as raw
use Rattle.aw_grammar.specs.declared.raw.RawRule.{RawRule}
use Rattle.aw_grammar.specs.declared.raw.Parts.{Parts}
use Rattle.aw_grammar.specs.declared.fault.DeclPlace.TheVariants as place
use Rattle.aw_grammar.specs.Written.{Word, Apply, side_by_side, written_of, rule_of_raw}
use Rattle.aw_grammar.specs.Declarations.{no_declarations}
use Rattle.aw_grammar.specs.Build.{AllSpelled, Rule as Rule', roles_placed, cons_placed, sorts_placed, starts_placed, rules_placed, placed, all_placed, first_fault}
use Rattle.aw_grammar.proofs.WrittenLemmas.{written_apply}
use Rattle.aw_iograph.specs.Dependence.{IO, HasNoCircle}
use Rattle.aw_iograph.proofs.Relations.{plus_map, io_least}
use Rattle.aw_iograph.specs.Decided.{Pair, Holds}
use Rattle.aw_iograph.proofs.Deciding.{decided_closed, decided_none}
use Rattle.aw_trial.specs.Specification.{apply_2, AreDeclared, trial_placed, trial_grammar}

pub one_applied : {E : Type 0} (n a b name : List ℕ) (parts : List RawTerm) (r : Result (List RawTerm) E) → name ≡ n → map written_of parts ≡ Word a ∷ Word b ∷ []
    → IfOk r (λ terms. terms ≡ raw.Apply name parts ∷ []) → IfOk r (λ terms. map written_of terms ≡ apply_2 n (Word a) (Word b) ∷ [])
one_applied n a b name parts (Ok terms) en ep e =
    ap (map written_of) e ∙ ap (λ t. t ∷ []) (written_apply name parts ∙ (λ i. Apply (en i) (side_by_side (ep i))))
one_applied n a b name parts (Err f) en ep e = tt

rules_same : (i : ℕ) (rs : List RawRule) → rules_placed i rs ≡ placed (λ n. place.Rule n) (λ r. Rule' r) i (map rule_of_raw rs)
rules_same i [] = refl
rules_same i (r ∷ rs) = ap (λ xs. (place.Rule i, Rule' (rule_of_raw r)) ∷ xs) (rules_same (suc i) rs)

-- all declarations, each at its place
pub all_declared : (p : Parts) → AreDeclared p → all_placed p ≡ trial_placed
all_declared p d =
    let rules = rules_same 0 p.rules ∙ ap (λ rs. placed (λ n. place.Rule n) (λ r. Rule' r) 0 rs) d.rules in
    λ i. roles_placed 0 (d.roles i) ++ (cons_placed 0 (d.cons i) ++ (sorts_placed 0 (d.sorts i) ++ (starts_placed 0 (d.starts i) ++ rules i)))

-- they are spelled as names are
trial_spelled : AllSpelled trial_placed
trial_spelled =
    (refl, (refl, (refl, (refl, (refl, (refl, (refl, (refl, (refl, (refl, (refl, (refl, (refl, (refl, (refl, (refl, (refl, (refl, (refl, tt)))))))))))))))))))

pub all_spelled : (p : Parts) → AreDeclared p → AllSpelled (all_placed p)
all_spelled p d = subst AllSpelled (sym (all_declared p d)) trial_spelled

-- none of them is at fault
pub no_fault : (p : Parts) → AreDeclared p → first_fault no_declarations (all_placed p) ≡ None
no_fault p d = ap (first_fault no_declarations) (all_declared p d)

pub told_nothing : {A : Type 0} (o : Option A) (x : A) → o ≡ None → o ≡ Some x → ⊥
told_nothing o x e f = let z : None ≡ Some x = sym e ∙ f in absurd cc

abbrev trial_pairs : List Pair
trial_pairs =
    record { sort = 1; i = 1; j = 1 } ∷ record { sort = 2; i = 1; j = 1 } ∷ record { sort = 2; i = 2; j = 1 } ∷ record { sort = 3; i = 1; j = 1 } ∷ []

-- a relation that is closed under the rules and has no circle holds the dependence relation
pub trial_no_circle : HasNoCircle trial_grammar (IO trial_grammar)
trial_no_circle r m o w =
    decided_none trial_grammar trial_pairs refl r m o
    (plus_map r (IO trial_grammar) (Holds trial_pairs) (io_least trial_grammar (Holds trial_pairs) (decided_closed trial_grammar trial_pairs refl)) w)
