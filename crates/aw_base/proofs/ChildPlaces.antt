-- The children of a rule, as the plain definitions number them.
use Rattle.std.proofs.Common.{◌≡◌, ℕ, zero, suc, refl, sym, ap, ◌∙◌, List, [], ◌∷◌, map, Option, None, Some, option_map, option_and_then, slice_get}
use Rattle.std.specs.Option.{unwrap_or}
use Rattle.std.proofs.lemmas.Option.{slice_get-map}
use Rattle.aw_term.specs.Names.{Step}
use Rattle.aw_term.specs.Rules as P
use Rattle.aw_term.specs.Rules.{child_at, sort_of_child}
use Rattle.aw_grammar.specs.GrammarView.{child_of, rule_of}
use Rattle.aw_grammar.specs.GrammarOf.{grammar_of}
use Rattle.aw_grammar.specs.declared.grammar.Grammar.{Grammar}
use Rattle.aw_grammar.specs.declared.rule.Rule.{Rule}
use Rattle.aw_grammar.specs.declared.rule.Sort.{Sort}
use Rattle.aw_grammar.specs.declared.rule.Child.{Child}

abbrev pub sort_at : List Child → ℕ → Option ℕ
sort_at children at = option_map (λ (c : Child). c.sort) (slice_get children at)

abbrev pub plain_sort_at : List P.Child → ℕ → Option ℕ
plain_sort_at children at = option_map (λ (c : P.Child). c.sort) (slice_get children at)

same_sort_at : (sorts : List Sort) (children : List Child) (at : ℕ) → sort_at children at ≡ plain_sort_at (map (child_of sorts) children) at
same_sort_at sorts [] at = refl
same_sort_at sorts (c ∷ cs) zero = refl
same_sort_at sorts (c ∷ cs) (suc at) = same_sort_at sorts cs at

-- the sort of the child behind a place
pub child_sort : (sorts : List Sort) (children : List Child) (number at : ℕ) → number ≡ suc at
    → sort_at children at ≡ option_map (λ (c : P.Child). c.sort) (child_at (map (child_of sorts) children) number)
child_sort sorts children number at e =
    same_sort_at sorts children at ∙ ap (λ n. option_map (λ (c : P.Child). c.sort) (child_at (map (child_of sorts) children) n)) (sym e)

-- the sort of the child that a step names, where this is the step's rule
abbrev child_sort_of : Step → Option P.Rule → ℕ
child_sort_of step rule = unwrap_or (option_and_then (λ (r : P.Rule). option_map (λ (c : P.Child). c.sort) (child_at r.children step.child)) rule) 0

pub sort_behind_rule : (g : Grammar) (step : Step) (r : Rule) (found : Option ℕ) → Some r ≡ slice_get g.rules step.rule
    → ((sorts : List Sort) → found ≡ option_map (λ (c : P.Child). c.sort) (child_at (map (child_of sorts) r.children) step.child))
    → unwrap_or found 0 ≡ sort_of_child (grammar_of g) step
sort_behind_rule g step r found e h =
    ap (λ o. unwrap_or o 0) (h g.sorts)
    ∙ ap (child_sort_of step) (sym (slice_get-map (rule_of g.sorts) g.rules step.rule ∙ ap (option_map (rule_of g.sorts)) (sym e)))

pub sort_behind_none : (g : Grammar) (step : Step) → None ≡ slice_get g.rules step.rule → 0 ≡ sort_of_child (grammar_of g) step
sort_behind_none g step e = ap (child_sort_of step) (sym (slice_get-map (rule_of g.sorts) g.rules step.rule ∙ ap (option_map (rule_of g.sorts)) (sym e)))
