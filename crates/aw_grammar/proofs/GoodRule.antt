-- A grammar stays well formed where a rule without fault is added.
use Rattle.std.proofs.Common.{◌≡◌, ℕ, ◌<◌, ◌≤◌, nat_lt, nat_le, true, false, ◌||◌, List, [], ◌∷◌, ◌++◌, length, map, Option, None, Result, Ok, Err, refl, sym, ap, ◌∙◌, subst, arith, length-append}
use Rattle.std.proofs.lemmas.Bool.{leb-false, or_parts}
use Rattle.std.specs.Result.{IsErrAnd}
use Rattle.std.proofs.lemmas.List.{length-map, map-append}
use Rattle.std.proofs.Math.Logic.{∥∥₁_map}
use Rattle.aw_spelling.specs.Spelling.{is_name}
use Rattle.aw_name_index.specs.Places.{stands}
use Rattle.aw_term.specs.Rules as P
use Rattle.aw_term.specs.WellFormed.{Each, Differ, RuleFits}
use Rattle.aw_grammar.specs.declared.rule.Con.{Con}
use Rattle.aw_grammar.specs.declared.rule.Sort.{Sort}
use Rattle.aw_grammar.specs.declared.rule.Rule.{Rule}
use Rattle.aw_grammar.specs.declared.fault.DeclKind.{DeclKind}
use Rattle.aw_grammar.specs.declared.fault.AddFault.{AddFault}
use Rattle.aw_grammar.specs.declared.fault.AddFault.TheVariants as add
use Rattle.aw_grammar.specs.declared.grammar.Grammar.{Grammar}
use Rattle.aw_grammar.specs.Build.{Added}
use Rattle.aw_grammar.specs.GrammarView.{rule_of, plain_grammar}
use Rattle.aw_grammar.specs.GrammarOf.{entry}
use Rattle.aw_grammar.specs.Written.{WrittenRule}
use Rattle.aw_grammar.specs.Terms.{all_have_contents, terms_of}
use Rattle.aw_grammar.specs.Declarations.{Entry, Declarations, entry_of, with_rule}
use Rattle.aw_grammar.specs.Kinds.{rule_kind, rule_tests, is_past_counts, is_past_terms}
use Rattle.aw_name_index.proofs.FirstTold.{none_holds}
use Rattle.aw_term.proofs.Eaches.{each_push, each_map}
use Rattle.aw_term.specs.Limits.{most_rules, most_inherited, most_results, most_params, most_children}
use Rattle.aw_grammar.proofs.Counted.{rules_counted}
use Rattle.aw_grammar.proofs.Growth.{differ_push, four_from, four_to}
use Rattle.aw_grammar.proofs.Added.{listed, Good}
use Rattle.aw_grammar.proofs.Entries.{names_of_entries}
use Rattle.aw_grammar.proofs.FitsRule.{rule_fits, no_fault}

-- a rule fits whatever other rules there are
pub other_rules : (roles : List (List ℕ)) (cons : List Con) (sorts : List Sort) (old new : List Rule) (r : P.Rule) →
    RuleFits (plain_grammar roles cons sorts old) r → RuleFits (plain_grammar roles cons sorts new) r
other_rules roles cons sorts old new r f = record {
  declared = f.declared;
  takes = f.takes;
  gives = f.gives;
  few_params = f.few_params;
  few_children = f.few_children;
  few_variables = f.few_variables;
  few_symbols = f.few_symbols;
  numbered = f.numbered;
  patterns = f.patterns;
  results = f.results;
  enter = f.enter;
  children = each_map _ _ r.children (λ c h. record { declared = h.declared; takes = h.takes; gives = h.gives; terms = h.terms; enter = h.enter }) f.children;
}

well_formed_rule : (roles : List (List ℕ)) (cons : List Con) (sorts : List Sort) (rules : List Rule) (r : Rule) → Good roles cons sorts rules →
    is_name r.name ≡ true → length rules < 1024 → stands r.name (map (λ (u : Rule). u.name) rules) ≡ false →
    RuleFits (plain_grammar roles cons sorts (rules ++ r ∷ [])) (rule_of sorts r) → Good roles cons sorts (rules ++ r ∷ [])
well_formed_rule roles cons sorts rules r w named few absent fits =
    let old = map (λ (u : Rule). u.name) rules in
    let con_names = map (λ (c : Con). c.name) cons in
    let sort_names = map (λ (s : Sort). s.name) sorts in
    let names = four_from (λ n. is_name n ≡ true) roles con_names sort_names old w.names in
    let pushed : old ++ r.name ∷ [] ≡ map (λ (u : Rule). u.name) (rules ++ r ∷ []) = sym (map-append (λ (u : Rule). u.name) rules (r ∷ [])) in
    let longer : length (old ++ r.name ∷ []) ≤ 1024 = omega (arith, few, length-map rules (λ (u : Rule). u.name), length-append old (r.name ∷ [])) in
    record {
      roles = refl;
      all_cons = w.all_cons;
      all_sorts = w.all_sorts;
      all_rules = rules_counted sorts (rules ++ r ∷ []);
      few_roles = w.few_roles;
      few_cons = w.few_cons;
      few_sorts = w.few_sorts;
      few_rules = subst (λ ns. length ns ≤ 1024) pushed longer;
      names = four_to (λ n. is_name n ≡ true) roles con_names sort_names (map (λ (u : Rule). u.name) (rules ++ r ∷ [])) names.roles_fit names.cons_fit names.sorts_fit
          (subst (λ ns. Each (λ n. is_name n ≡ true) ns) pushed (each_push (λ n. is_name n ≡ true) old r.name names.rules_fit named));
      roles_differ = w.roles_differ;
      cons_differ = w.cons_differ;
      sorts_differ = w.sorts_differ;
      rules_differ = subst (λ ns. Differ ns) pushed (differ_push old r.name w.rules_differ absent);
      arities = w.arities;
      sorts = w.sorts;
      rules = subst (Each (RuleFits (plain_grammar roles cons sorts (rules ++ r ∷ [])))) (sym (map-append (rule_of sorts) rules (r ∷ [])))
          (each_push (RuleFits (plain_grammar roles cons sorts (rules ++ r ∷ []))) (map (rule_of sorts) rules) (rule_of sorts r)
          (each_map _ _ (map (rule_of sorts) rules) (λ u h. other_rules roles cons sorts rules (rules ++ r ∷ []) u h) w.rules) fits);
    }

-- a rule without fault has a new name
pub new_name : (roles : List (List ℕ)) (cons : List Con) (sorts : List Sort) (rules : List Rule) (w : WrittenRule) →
    rule_kind (listed roles cons sorts rules) w ≡ None → stands w.name (map (λ (u : Rule). u.name) rules) ≡ false
new_name roles cons sorts rules w none =
    let tests = none_holds (rule_tests (listed roles cons sorts rules) w) none in
    ap (stands w.name) (names_of_entries sorts rules) ∙ tests.1.1.0

few_rules : (roles : List (List ℕ)) (cons : List Con) (sorts : List Sort) (rules : List Rule) (w : WrittenRule) → rule_kind (listed roles cons sorts rules) w ≡ None → length rules < 1024
few_rules roles cons sorts rules w none =
    let d = listed roles cons sorts rules in
    let tests = none_holds (rule_tests d w) none in
    let past = or_parts (is_past_counts d w) (is_past_terms w) tests.0 in
    let a = or_parts (nat_le most_rules (length d.rules)) (nat_lt most_inherited (length w.patterns) || (nat_lt most_results (length w.results)
    || (nat_lt most_params (length w.params) || nat_lt most_children (length w.children)))) past.0 in
    subst (λ n. n < 1024) (length-map rules (entry sorts)) (leb-false most_rules (length d.rules) a.0)

pub good_rule : (roles : List (List ℕ)) (cons : List Con) (sorts : List Sort) (rules : List Rule) (w : WrittenRule) (r : Rule) (new : List Rule) →
    new ≡ rules ++ r ∷ [] → entry sorts r ≡ entry_of (listed roles cons sorts rules) w → is_name w.name ≡ true →
    all_have_contents (terms_of w) ≡ true → rule_kind (listed roles cons sorts rules) w ≡ None → ∥ Good roles cons sorts rules ∥₁ →
    ∥ Good roles cons sorts new ∥₁
good_rule roles cons sorts rules w r new e made named contents none good =
    let name : r.name ≡ w.name = ap (λ (z : Entry). z.name) made in
    let plain = ap (λ (z : Entry). z.rule) made in
    ∥∥₁_map good (λ g. subst (λ rs. Good roles cons sorts rs) (sym e)
    (well_formed_rule roles cons sorts rules r g (ap is_name name ∙ named) (few_rules roles cons sorts rules w none)
    (ap (λ n. stands n (map (λ (u : Rule). u.name) rules)) name ∙ new_name roles cons sorts rules w none)
    (subst (RuleFits (plain_grammar roles cons sorts (rules ++ r ∷ []))) (sym plain) (rule_fits roles cons sorts (rules ++ r ∷ []) w (no_fault roles cons sorts rules w none contents)))))

pub declares_more : (roles : List (List ℕ)) (cons : List Con) (sorts : List Sort) (rules : List Rule) (w : WrittenRule) (r : Rule) (new : List Rule) →
    new ≡ rules ++ r ∷ [] → entry sorts r ≡ entry_of (listed roles cons sorts rules) w → listed roles cons sorts new ≡ with_rule
    (listed roles cons sorts rules) w
declares_more roles cons sorts rules w r new e made =
    ap (λ es. record { roles = roles; cons = cons; sorts = sorts; rules = es })
    (ap (map (entry sorts)) e ∙ map-append (entry sorts) rules (r ∷ []) ∙ ap (λ z. map (entry sorts) rules ++ z ∷ []) made)

pub no_memory : (kind : Option DeclKind) (after : Declarations) (result : Result Grammar AddFault) → IsErrAnd result (λ e. e ≡ add.NoMemory) → Added kind after result
no_memory kind after (Ok g) h = absurd h
no_memory kind after (Err e) h = subst (λ f. Added kind after (Err f)) (sym h) tt
