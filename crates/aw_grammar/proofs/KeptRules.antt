-- Copies of the declarations of a grammar, with some of its rules, make the grammar of those.
use Rattle.std.proofs.Common.{◌≡◌, ℕ, Bool, List, subst, sym, ap, ◌∙◌}
use Rattle.std.specs.Prelude.{filter}
use Rattle.std.proofs.Math.Logic.{∥∥₁_map}
use Rattle.aw_term.specs.Rules as P
use Rattle.aw_term.specs.Rules.{some_rules}
use Rattle.aw_grammar.specs.declared.rule.Con.{Con}
use Rattle.aw_grammar.specs.declared.rule.Sort.{Sort}
use Rattle.aw_grammar.specs.declared.rule.Rule.{Rule}
use Rattle.aw_grammar.specs.GrammarView.{rule_of, plain_grammar}
use Rattle.aw_grammar.specs.Variables.{AllVariablesFit}
use Rattle.aw_grammar.proofs.Added.{Good}
use Rattle.aw_grammar.proofs.SomeRules.{good_some, variables_some, shown_some}

-- it is well formed
pub good_kept : (roles : List (List ℕ)) (cons : List Con) (sorts : List Sort) (rules : List Rule) (p : Rule → Bool) (roles_new : List (List ℕ))
    (cons_new : List Con) (sorts_new : List Sort) (rules_new : List Rule) → roles_new ≡ roles → cons_new ≡ cons → sorts_new ≡ sorts →
    rules_new ≡ filter p rules → ∥ Good roles cons sorts rules ∥₁ → ∥ Good roles_new cons_new sorts_new rules_new ∥₁
good_kept roles cons sorts rules p roles_new cons_new sorts_new rules_new same_roles same_cons same_sorts kept good =
    ∥∥₁_map good (λ w.
    subst (λ xs. Good xs cons_new sorts_new rules_new) (sym same_roles)
    (subst (λ xs. Good roles xs sorts_new rules_new) (sym same_cons)
    (subst (λ xs. Good roles cons xs rules_new) (sym same_sorts)
    (subst (λ xs. Good roles cons sorts xs) (sym kept) (good_some roles cons sorts rules p w)))))

-- the variables of its rules fit
pub variables_kept : (cons : List Con) (sorts : List Sort) (rules : List Rule) (p : Rule → Bool) (cons_new : List Con) (sorts_new : List Sort)
    (rules_new : List Rule) → cons_new ≡ cons → sorts_new ≡ sorts → rules_new ≡ filter p rules → ∥ AllVariablesFit cons sorts rules ∥₁ →
    ∥ AllVariablesFit cons_new sorts_new rules_new ∥₁
variables_kept cons sorts rules p cons_new sorts_new rules_new same_cons same_sorts kept fit =
    ∥∥₁_map fit (λ f.
    subst (λ xs. AllVariablesFit xs sorts_new rules_new) (sym same_cons)
    (subst (λ xs. AllVariablesFit cons xs rules_new) (sym same_sorts)
    (subst (λ xs. AllVariablesFit cons sorts xs) (sym kept) (variables_some cons sorts rules p f))))

-- as a plain grammar it is that of those rules
pub shown_kept : (roles : List (List ℕ)) (cons : List Con) (sorts : List Sort) (rules : List Rule) (q : P.Rule → Bool) (roles_new : List (List ℕ))
    (cons_new : List Con) (sorts_new : List Sort) (rules_new : List Rule) → roles_new ≡ roles → cons_new ≡ cons → sorts_new ≡ sorts →
    rules_new ≡ filter (λ r. q (rule_of sorts r)) rules → plain_grammar roles_new cons_new sorts_new rules_new ≡ some_rules q
    (plain_grammar roles cons sorts rules)
shown_kept roles cons sorts rules q roles_new cons_new sorts_new rules_new same_roles same_cons same_sorts kept =
    ap (λ xs. plain_grammar xs cons_new sorts_new rules_new) same_roles
    ∙ ap (λ xs. plain_grammar roles xs sorts_new rules_new) same_cons
    ∙ ap (λ xs. plain_grammar roles cons xs rules_new) same_sorts
    ∙ ap (λ xs. plain_grammar roles cons sorts xs) kept
    ∙ shown_some roles cons sorts rules q
