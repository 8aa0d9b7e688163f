-- Declarations whose sorts are all at one role make the grammar with one role.
use Rattle.std.proofs.Common.{◌≡◌, ℕ, List, [], ◌∷◌, map, slice_get, refl, sym, subst, ap, ◌∙◌}
use Rattle.std.proofs.Math.Logic.{∥∥₁_map}
use Rattle.aw_term.specs.Rules as P
use Rattle.aw_term.specs.Choices.{gives_of}
use Rattle.aw_term.specs.Artifacts.{Words}
use Rattle.aw_term.specs.Views.{pattern_of, term_of}
use Rattle.aw_term.specs.WellFormed.{IsWellFormed}
use Rattle.aw_term.proofs.Eaches.{each_map}
use Rattle.aw_grammar.specs.declared.rule.Con.{Con}
use Rattle.aw_grammar.specs.declared.rule.Sort.{Sort}
use Rattle.aw_grammar.specs.declared.rule.Child.{Child}
use Rattle.aw_grammar.specs.declared.rule.Rule.{Rule}
use Rattle.aw_grammar.specs.GrammarView.{sorts_of, sort_of, child_of, rule_of, plain_grammar, plain_words}
use Rattle.aw_grammar.specs.Variables.{VariablesFit, AllVariablesFit}
use Rattle.aw_replay.specs.Seated.{all_seated}
use Rattle.aw_replay.specs.United.{at_one_role, united, everyone, united_words}
use Rattle.aw_replay.proofs.SameMaps.{map_same}
use Rattle.aw_replay.proofs.SortsAt.{gives_same}
use Rattle.aw_replay.proofs.WellFormeds.{stays_well_formed}

sorts_seen : (sorts : List Sort) → sorts_of (all_seated sorts) ≡ map at_one_role (sorts_of sorts)
sorts_seen [] = refl
sorts_seen (s ∷ ss) = ap (λ us. at_one_role (sort_of s) ∷ us) (sorts_seen ss)

names_seen : (sorts : List Sort) → map (λ (s : Sort). s.name) (all_seated sorts) ≡ map (λ (s : Sort). s.name) sorts
names_seen [] = refl
names_seen (s ∷ ss) = ap (λ names. s.name ∷ names) (names_seen ss)

-- a child with so many results
abbrev child_with : Child → ℕ → P.Child
child_with c outs = record { sort = c.sort; args = map term_of c.args; outs = outs }

child_seen : (sorts : List Sort) (c : Child) → child_of (all_seated sorts) c ≡ child_of sorts c
child_seen sorts c = ap (child_with c) (ap (λ ss. gives_of (slice_get ss c.sort)) (sorts_seen sorts) ∙ gives_same (sorts_of sorts) c.sort)

-- a rule with these children
abbrev rule_with : Rule → List P.Child → P.Rule
rule_with r children = record { sort = r.sort; patterns = map pattern_of r.patterns; params = r.params; results = map term_of r.results; children = children }

rule_seen : (sorts : List Sort) (r : Rule) → rule_of (all_seated sorts) r ≡ rule_of sorts r
rule_seen sorts r = ap (rule_with r) (map_same (child_of (all_seated sorts)) (child_of sorts) (child_seen sorts) r.children)

-- a grammar with one role, these sorts and these rules
abbrev one_with : List Con → List P.Sort → List P.Rule → P.Grammar
one_with cons sorts rules = record { roles = 1; arities = map (λ (c : Con). c.arity) cons; sorts = sorts; rules = rules }

seen : (roles : List (List ℕ)) (cons : List Con) (sorts : List Sort) (rules : List Rule) → plain_grammar (everyone ∷ []) cons (all_seated sorts) rules ≡ united (plain_grammar roles cons sorts rules)
seen roles cons sorts rules =
    ap (λ ss. one_with cons ss (map (rule_of (all_seated sorts)) rules)) (sorts_seen sorts)
    ∙ ap (one_with cons (map at_one_role (sorts_of sorts))) (map_same (rule_of (all_seated sorts)) (rule_of sorts) (rule_seen sorts) rules)

-- the one role's name beside these
abbrev words_with : List Con → List (List ℕ) → List Rule → Words
words_with cons sorts rules = record { roles = everyone ∷ []; cons = map (λ (c : Con). c.name) cons; sorts = sorts; rules = map (λ (r : Rule). r.name) rules }

words : (roles : List (List ℕ)) (cons : List Con) (sorts : List Sort) (rules : List Rule) → plain_words (everyone ∷ []) cons (all_seated sorts)
    rules ≡ united_words (plain_words roles cons sorts rules)
words roles cons sorts rules = ap (λ names. words_with cons names rules) (names_seen sorts)

-- declarations that are these with all sorts at one role
module _ (roles : List (List ℕ)) (cons : List Con) (sorts : List Sort) (rules : List Rule) (new_roles : List (List ℕ)) (new_cons : List Con) (new_sorts : List Sort) (new_rules : List Rule)
    (one : new_roles ≡ everyone ∷ []) (same_cons : new_cons ≡ cons) (at_one : new_sorts ≡ all_seated sorts) (same_rules : new_rules ≡ rules) where
  pub grammar_seen : plain_grammar new_roles new_cons new_sorts new_rules ≡ united (plain_grammar roles cons sorts rules)
  grammar_seen =
      ap (λ rs. plain_grammar rs new_cons new_sorts new_rules) one
      ∙ ap (λ cs. plain_grammar (everyone ∷ []) cs new_sorts new_rules) same_cons
      ∙ ap (λ ss. plain_grammar (everyone ∷ []) cons ss new_rules) at_one
      ∙ ap (plain_grammar (everyone ∷ []) cons (all_seated sorts)) same_rules
      ∙ seen roles cons sorts rules

  pub words_seen : plain_words new_roles new_cons new_sorts new_rules ≡ united_words (plain_words roles cons sorts rules)
  words_seen =
      ap (λ rs. plain_words rs new_cons new_sorts new_rules) one
      ∙ ap (λ cs. plain_words (everyone ∷ []) cs new_sorts new_rules) same_cons
      ∙ ap (λ ss. plain_words (everyone ∷ []) cons ss new_rules) at_one
      ∙ ap (plain_words (everyone ∷ []) cons (all_seated sorts)) same_rules
      ∙ words roles cons sorts rules

  -- they are well formed
  pub good_united : ∥ IsWellFormed (plain_words roles cons sorts rules) (plain_grammar roles cons sorts rules) ∥₁ →
      ∥ IsWellFormed (plain_words new_roles new_cons new_sorts new_rules) (plain_grammar new_roles new_cons new_sorts new_rules) ∥₁
  good_united formed =
      let w = plain_words roles cons sorts rules in
      let g = plain_grammar roles cons sorts rules in
      ∥∥₁_map formed (λ f.
      subst (λ v. IsWellFormed v (plain_grammar new_roles new_cons new_sorts new_rules)) (sym words_seen)
      (subst (IsWellFormed (united_words w)) (sym grammar_seen) (stays_well_formed w g f)))

  -- the variables of their rules fit
  pub variables_united : ∥ AllVariablesFit cons sorts rules ∥₁ → ∥ AllVariablesFit new_cons new_sorts new_rules ∥₁
  variables_united fit =
      let con_names = map (λ (c : Con). c.name) cons in
      ∥∥₁_map fit (λ f.
      subst (λ cs. AllVariablesFit cs new_sorts new_rules) (sym same_cons)
      (subst (λ ss. AllVariablesFit cons ss new_rules) (sym at_one)
      (subst (AllVariablesFit cons (all_seated sorts)) (sym same_rules)
      (each_map (λ (r : Rule). VariablesFit con_names r.vars (rule_of sorts r)) (λ (r : Rule). VariablesFit con_names r.vars (rule_of (all_seated sorts) r)) rules
      (λ r h. subst (VariablesFit con_names r.vars) (sym (rule_seen sorts r)) h) f))))
