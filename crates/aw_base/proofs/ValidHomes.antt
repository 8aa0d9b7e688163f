-- A node whose name is valid has a declared sort, and so a home.
use Rattle.std.proofs.Common.{◌≡◌, ℕ, zero, suc, ◌<◌, true, cond, nat_eq, List, [], ◌∷◌, length, Option, Some, None, is_some, slice_get, option_map, option_and_then, refl, ap, sym, subst, ◌∙◌}
use Rattle.std.proofs.Math.Logic.{∥∥₁_elim}
use Rattle.std.proofs.Math.Bool.{Bool-set}
use Rattle.std.proofs.lemmas.Option.{same_Some, slice_get_within, slice_get-get_or}
use Rattle.aw_term.specs.Names.{Step, Node}
use Rattle.aw_term.specs.Rules.{Child, Rule, Sort, Grammar, child_at, sort_of_step, sort_after, sort_of, home_of, home_at}
use Rattle.aw_term.specs.Artifacts.{Words}
use Rattle.aw_term.specs.WellFormed.{Each, ChildFits, RuleFits, IsWellFormed, variables}
use Rattle.aw_term.proofs.LastSteps.{followed, mapped, where_true, home_by_last}
use Rattle.aw_grammar.specs.declared.grammar.Grammar as program
use Rattle.aw_grammar.specs.GrammarOf.{grammar_of, words_of}
use Rattle.aw_grammar.proofs.Fits.{each_at}

each_child : (P : Child → Type 0) (cs : List Child) (k : ℕ) (c : Child) → Each P cs → child_at cs k ≡ Some c → P c
each_child P cs zero c each e = cc
each_child P cs (suc k) c each e = each_at P cs k c each e

declared_child : (g : Grammar) (s : ℕ) (step : Step) (t : ℕ) → Each (RuleFits g) g.rules → sort_of_step g s step ≡ Some t → t < length g.sorts
declared_child g s step t rules e =
    let child = λ (r : Rule). option_map (λ (c : Child). c.sort) (child_at r.children step.child) in
    let (r, here, f) = followed (λ (r : Rule). cond (nat_eq r.sort s) (child r) None) (slice_get g.rules step.rule) t e in
    let (c, at, same) = mapped (λ (c : Child). c.sort) (child_at r.children step.child) t (where_true (nat_eq r.sort s) (child r) t f) in
    subst (λ n. n < length g.sorts) same (each_child (ChildFits g (variables r)) r.children step.child c (each_at (RuleFits g) g.rules step.rule r rules here).children at).declared

declared_after : (g : Grammar) (s : ℕ) (steps : List Step) (t : ℕ) → Each (RuleFits g) g.rules → s < length g.sorts → sort_after g s steps ≡ Some t → t < length g.sorts
declared_after g s [] t rules start e = subst (λ n. n < length g.sorts) (same_Some _ _ e) start
declared_after g s (step ∷ steps) t rules start e =
    let (u, f, h) = followed (λ t. sort_after g t steps) (sort_of_step g s step) t e in
    declared_after g u steps t rules (declared_child g s step u rules f) h

pub declared_sort : (w : Words) (g : Grammar) (n : Node) (s : ℕ) → IsWellFormed w g → sort_of g n ≡ Some s → s < length g.sorts
declared_sort w g n s formed e =
    let (start, here, f) = followed (λ (s : Sort). cond s.start (sort_after g n.start n.steps) None) (slice_get g.sorts n.start) s e in
    declared_after g n.start n.steps s formed.rules (slice_get_within g.sorts n.start start here) (where_true start.start (sort_after g n.start n.steps) s f)

found : {A B : Type 0} (f : A → B) (xs : List A) (i : ℕ) (d : A) → i < length xs → is_some (option_map f (slice_get xs i)) ≡ true
found f xs i d less = ap (λ o. is_some (option_map f o)) (slice_get-get_or xs i d less)

-- a node has a home exactly where its name is valid
home_exact : (w : Words) (g : Grammar) (n : Node) (o : Option ℕ) → IsWellFormed w g → sort_of g n ≡ o →
    is_some (option_and_then (λ s. option_map (λ (t : Sort). t.role) (slice_get g.sorts s)) o) ≡ is_some o
home_exact w g n None formed e = refl
home_exact w g n (Some s) formed e =
    found (λ (t : Sort). t.role) g.sorts s (record { role = 0; takes = 0; gives = 0; start = true }) (declared_sort w g n s formed e)

pub home_is_exact : (g : program.Grammar) (n : Node) → is_some (home_of (grammar_of g) n) ≡ is_some (sort_of (grammar_of g) n)
home_is_exact g n = ∥∥₁_elim g.well_formed (Bool-set _ _) (λ formed. home_exact (words_of g) (grammar_of g) n (sort_of (grammar_of g) n) formed refl)

told_by_last : (g : Grammar) (n : Node) (o : Option ℕ) → home_of g n ≡ o → is_some o ≡ true → o ≡ Some (home_at g n)
told_by_last g n None e valid = cc
told_by_last g n (Some r) e valid = ap Some (sym (home_by_last g n r e))

-- the home of a valid name is the one that its last step tells
pub home_of_valid : (g : program.Grammar) (n : Node) → is_some (sort_of (grammar_of g) n) ≡ true → home_of (grammar_of g) n ≡ Some (home_at (grammar_of g) n)
home_of_valid g n valid = told_by_last (grammar_of g) n (home_of (grammar_of g) n) refl (home_is_exact g n ∙ valid)
