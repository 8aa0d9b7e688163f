-- One rule after the other.
use Rattle.std.proofs.Common.{◌≡◌, ℕ, zero, suc, ◌+◌, ◌≤◌, refl, sym, ap, ◌∙◌, add-one, List, [], ◌∷◌, map, drop, length, slice_get, arith, Option, Some, None, IfSome, Bor}
use Rattle.std.proofs.lemmas.List.{length-map}
use Rattle.std.proofs.Math.Logic.{∥∥₁_elim}
use Rattle.std.specs.Coded.{le_prop}
use Rattle.aw_list.proofs.Everyday.{at_next}
use Rattle.aw_term.specs.Rules as P
use Rattle.aw_term.specs.WellFormed.{RuleFits}
use Rattle.aw_grammar.specs.declared.rule.Sort.{Sort}
use Rattle.aw_grammar.specs.declared.rule.Rule.{Rule}
use Rattle.aw_grammar.specs.GrammarView.{sorts_of, child_of, rule_of}
use Rattle.aw_face.specs.declared.faces.Using.{Using}
use Rattle.aw_face.specs.declared.faces.FaceKind.{FaceKind}
use Rattle.aw_face.specs.Faces.{rule_fault, at_rule, rules_fault}

pub few_children : (g : P.Grammar) (sorts : List Sort) (found : Option (Bor Rule)) → IfSome found (λ r. ∥ RuleFits g (rule_of sorts r.now) ∥₁) → IfSome found (λ r. length r.now.children ≤ 8)
few_children g sorts None h = tt
few_children g sorts (Some r) h = ∥∥₁_elim h le_prop (λ w. omega (arith, w.few_children, length-map r.now.children (child_of sorts)))

pub past_end : {A : Type 0} (xs : List A) (i : ℕ) → None ≡ slice_get xs i → drop i xs ≡ []
past_end [] zero e = refl
past_end [] (suc i) e = refl
past_end (y ∷ ys) zero e = cc
past_end (y ∷ ys) (suc i) e = past_end ys i e

-- the first fault among the rules from a place on
abbrev pub faults_from : List Sort → List ℕ → List Using → ℕ → List Rule → Option (ℕ × ℕ × FaceKind)
faults_from sorts offers uses i rules = rules_fault (sorts_of sorts) offers uses i (map (rule_of sorts) rules)

one_rule : (sorts : List Sort) (offers : List ℕ) (uses : List Using) (i : ℕ) (r : Rule) (rules : List Rule) → slice_get rules i ≡ Some r →
    faults_from sorts offers uses i (drop i rules) ≡ at_rule i (rule_fault (sorts_of sorts) offers uses (rule_of sorts r)) (faults_from sorts offers uses (i + 1) (drop (i + 1) rules))
one_rule sorts offers uses i r rules e =
    ap (faults_from sorts offers uses i) (at_next rules i r e)
    ∙ ap (λ k. at_rule i (rule_fault (sorts_of sorts) offers uses (rule_of sorts r)) (faults_from sorts offers uses k (drop (i + 1) rules))) (sym (add-one i))

none_then : (i : ℕ) (o : Option (ℕ × FaceKind)) (later : Option (ℕ × ℕ × FaceKind)) → None ≡ at_rule i o None → at_rule i o later ≡ later
none_then i None later e = refl
none_then i (Some fault) later e = cc

some_then : (i : ℕ) (o : Option (ℕ × FaceKind)) (later : Option (ℕ × ℕ × FaceKind)) (fault : ℕ × ℕ × FaceKind) → Some fault ≡ at_rule i o None → at_rule i o later ≡ Some fault
some_then i None later fault e = cc
some_then i (Some found) later fault e = sym e

pub rule_kept : (sorts : List Sort) (offers : List ℕ) (uses : List Using) (i : ℕ) (r : Rule) (rules : List Rule) → slice_get rules i ≡ Some r →
    None ≡ at_rule i (rule_fault (sorts_of sorts) offers uses (rule_of sorts r)) None → faults_from sorts offers uses (i + 1) (drop (i + 1) rules) ≡ faults_from sorts offers uses i (drop i rules)
rule_kept sorts offers uses i r rules e h = sym (one_rule sorts offers uses i r rules e ∙ none_then i _ _ h)

pub rule_at_fault : (sorts : List Sort) (offers : List ℕ) (uses : List Using) (i : ℕ) (r : Rule) (rules : List Rule) (fault : ℕ × ℕ × FaceKind) → slice_get rules i ≡ Some r →
    Some fault ≡ at_rule i (rule_fault (sorts_of sorts) offers uses (rule_of sorts r)) None → faults_from sorts offers uses i (drop i rules) ≡ Some fault
rule_at_fault sorts offers uses i r rules fault e h = one_rule sorts offers uses i r rules e ∙ some_then i _ _ fault h

pub no_more_rules : (sorts : List Sort) (offers : List ℕ) (uses : List Using) (i : ℕ) (rules : List Rule) → None ≡ slice_get rules i → faults_from sorts offers uses i (drop i rules) ≡ None
no_more_rules sorts offers uses i rules e = ap (faults_from sorts offers uses i) (past_end rules i e)
