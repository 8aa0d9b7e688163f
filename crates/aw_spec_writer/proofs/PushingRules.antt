-- Texts that grow by children and by rules.
use Rattle.std.proofs.Common.{◌≡◌, ℕ, ◌+◌, sym, ap, ◌∙◌, subst, List, [], ◌∷◌, ◌++◌, map, drop, slice_get, Some, None, append_assoc, append-nil}
use Rattle.aw_list.proofs.Everyday.{at_next}
use Rattle.aw_term.specs.WellFormed.{Each}
use Rattle.aw_grammar.specs.declared.rule.Sort.{Sort}
use Rattle.aw_grammar.specs.declared.rule.Rule.{Rule}
use Rattle.aw_grammar.specs.GrammarOf.{entry}
use Rattle.aw_grammar.specs.Declarations.{Entry}
use Rattle.aw_grammar.specs.Written.{WrittenChild}
use Rattle.aw_face.proofs.RuleSteps.{past_end}
use Rattle.aw_spec.specs.Lines.{Line, RuleLine}
use Rattle.aw_spec_writer.specs.LineTexts.{child_text, children_behind, text_of_lines}
use Rattle.aw_spec_writer.specs.SpecLines.{named_rule}
use Rattle.aw_spec_writer.proofs.Pushing.{lines_both}

-- children with a separator before the first
abbrev pub separated_children : List ℕ → List WrittenChild → List ℕ
separated_children separator [] = []
separated_children separator (c ∷ cs) = separator ++ (child_text c ++ children_behind cs)

-- the lines of some rules
abbrev pub lines_of_rules : List (List ℕ) → List (List ℕ) → List Sort → List Rule → List Line
lines_of_rules cons sort_names sorts rules = map (λ (e : Entry). RuleLine (named_rule cons sort_names e)) (map (entry sorts) rules)

-- one rule more
pub rules_go_on : (cons sort_names : List (List ℕ)) (sorts : List Sort) (rules : List Rule) (i : ℕ) (r : Rule) (text new all : List ℕ) →
    slice_get rules i ≡ Some r → new ≡ text ++ text_of_lines (RuleLine (named_rule cons sort_names (entry sorts r)) ∷ []) →
    text ++ text_of_lines (lines_of_rules cons sort_names sorts (drop i rules)) ≡ all → new ++ text_of_lines (lines_of_rules cons sort_names sorts (drop (i + 1) rules)) ≡ all
rules_go_on cons sort_names sorts rules i r text new all found n e =
    let line = RuleLine (named_rule cons sort_names (entry sorts r)) in
    let rest = lines_of_rules cons sort_names sorts (drop (i + 1) rules) in
    ap (λ u. u ++ text_of_lines rest) n
    ∙ append_assoc text (text_of_lines (line ∷ [])) (text_of_lines rest)
    ∙ ap (λ u. text ++ u) (sym (lines_both (line ∷ []) rest))
    ∙ ap (λ rs. text ++ text_of_lines (lines_of_rules cons sort_names sorts rs)) (sym (at_next rules i r found))
    ∙ e

pub rules_end : (cons sort_names : List (List ℕ)) (sorts : List Sort) (rules : List Rule) (i : ℕ) (text all : List ℕ) → None ≡ slice_get rules i →
    text ++ text_of_lines (lines_of_rules cons sort_names sorts (drop i rules)) ≡ all → text ≡ all
rules_end cons sort_names sorts rules i text all none e = sym (append-nil text) ∙ ap (λ rs. text ++ text_of_lines (lines_of_rules cons sort_names sorts rs)) (sym (past_end rules i none)) ∙ e

pub each_rule : (P : Entry → Type 0) (sorts : List Sort) (rules : List Rule) (i : ℕ) (r : Rule) → slice_get rules i ≡ Some r → P (entry sorts r) →
    Each P (map (entry sorts) (drop (i + 1) rules)) → Each P (map (entry sorts) (drop i rules))
each_rule P sorts rules i r found here rest = subst (λ rs. Each P (map (entry sorts) rs)) (sym (at_next rules i r found)) (here, rest)

pub each_past : (P : Entry → Type 0) (sorts : List Sort) (rules : List Rule) (i : ℕ) → None ≡ slice_get rules i → Each P (map (entry sorts) (drop i rules))
each_past P sorts rules i none = subst (λ rs. Each P (map (entry sorts) rs)) (sym (past_end rules i none)) tt
