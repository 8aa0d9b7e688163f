-- The variables of rules without fault: one name each, no two the same, none a constructor's.
use Rattle.std.proofs.Common.{◌≡◌, ℕ, true, false, is_some, List, [], ◌∷◌, ◌++◌, Option, None, Some, refl, sym, ap, ◌∙◌, subst, append_assoc}
use Rattle.std.proofs.lemmas.Bool.{and_parts, or_parts}
use Rattle.std.proofs.lemmas.List.{append-nil}
use Rattle.std.proofs.Math.Logic.{∥∥₁_map}
use Rattle.aw_spelling.specs.Spelling.{is_name}
use Rattle.aw_name_index.specs.Places.{place_of, stands, any_stands, stands_again}
use Rattle.aw_name_index.proofs.Lookups.{stands_is_placed}
use Rattle.aw_term.specs.WellFormed.{Each, Differ, leaves, all_leaves, leaves_of}
use Rattle.aw_grammar.specs.declared.rule.Con.{Con}
use Rattle.aw_grammar.specs.declared.rule.Sort.{Sort}
use Rattle.aw_grammar.specs.declared.rule.Rule.{Rule}
use Rattle.aw_grammar.specs.Written.{Written, Word, Apply, Literal, Writtens, Empty, Then, WrittenRule}
use Rattle.aw_grammar.specs.Terms.{has_contents, parts_have_contents, all_have_contents, are_names, results_of, uses_of, terms_of}
use Rattle.aw_grammar.specs.Resolved.{word_tree, resolved, resolved_parts, all_resolved, entering, rule_numbered}
use Rattle.aw_grammar.specs.Declarations.{Entry, entry_of}
use Rattle.aw_grammar.specs.GrammarOf.{entry}
use Rattle.aw_grammar.specs.Kinds.{rule_kind, rule_tests}
use Rattle.aw_grammar.specs.Variables.{VariablesFit, AllVariablesFit}
use Rattle.aw_name_index.proofs.FirstTold.{none_holds}
use Rattle.aw_term.proofs.Eaches.{each_append, each_map, each_push}
use Rattle.aw_grammar.proofs.Growth.{differ_push}
use Rattle.aw_grammar.proofs.Added.{listed}
use Rattle.aw_grammar.proofs.FitsRule.{con_names, sort_names, no_fault, sound_split, variables_are}

-- a name that is no constructor's
abbrev IsFree : List (List ℕ) → List ℕ → Type 0
IsFree cons v = (stands v cons ≡ false) × (is_name v ≡ true)

word_free : (cons : List (List ℕ)) (x : List ℕ) (o : Option ℕ) → place_of x cons ≡ o → is_name x ≡ true → Each (IsFree cons) (leaves (word_tree x o))
word_free cons x None e named = ((sym (stands_is_placed x cons) ∙ ap is_some e, named), tt)
word_free cons x (Some i) e named = tt

mutual
  term_free : (cons : List (List ℕ)) (t : Written) → has_contents t ≡ true → Each (IsFree cons) (leaves (resolved cons t))
  term_free cons (Word x) h = word_free cons x (place_of x cons) refl h
  term_free cons (Apply x ts) h = parts_free cons ts h
  term_free cons (Literal l) h = tt

  parts_free : (cons : List (List ℕ)) (ts : Writtens) → parts_have_contents ts ≡ true → Each (IsFree cons) (all_leaves (resolved_parts cons ts))
  parts_free cons Empty h = tt
  parts_free cons (Then t ts) h =
      let b = and_parts (has_contents t) (parts_have_contents ts) h in
      each_append (IsFree cons) (leaves (resolved cons t)) (all_leaves (resolved_parts cons ts)) (term_free cons t b.0) (parts_free cons ts b.1)

terms_free : (cons : List (List ℕ)) (ts : List Written) → all_have_contents ts ≡ true → Each (IsFree cons) (leaves_of (all_resolved cons ts))
terms_free cons [] h = tt
terms_free cons (t ∷ ts) h =
    let b = and_parts (has_contents t) (all_have_contents ts) h in
    each_append (IsFree cons) (leaves (resolved cons t)) (leaves_of (all_resolved cons ts)) (term_free cons t b.0) (terms_free cons ts b.1)

words_free : (cons xs : List (List ℕ)) → any_stands xs cons ≡ false → are_names xs ≡ true → Each (IsFree cons) xs
words_free cons [] absent named = tt
words_free cons (x ∷ xs) absent named =
    let a = or_parts (stands x cons) (any_stands xs cons) absent in
    let b = and_parts (is_name x) (are_names xs) named in
    ((a.0, b.0), words_free cons xs a.1 b.1)

differ_behind : (seen xs : List (List ℕ)) → Differ seen → stands_again seen xs ≡ false → Differ (seen ++ xs)
differ_behind seen [] d h = subst Differ (sym (append-nil seen)) d
differ_behind seen (x ∷ xs) d h =
    let p = or_parts (stands x seen) (stands_again (seen ++ x ∷ []) xs) h in
    subst Differ (append_assoc seen (x ∷ []) xs) (differ_behind (seen ++ x ∷ []) xs (differ_push seen x d p.0) p.1)

entering_fit : (roles : List (List ℕ)) (cons : List Con) (sorts : List Sort) (rules : List Rule) (w : WrittenRule) → rule_kind (listed roles cons sorts rules) w ≡ None
    → all_have_contents (terms_of w) ≡ true → are_names (w.params ++ results_of w.children) ≡ true
    → VariablesFit (con_names cons) (entering (con_names cons) w) (rule_numbered (con_names cons) (sort_names sorts) (entering (con_names cons) w) w)
entering_fit roles cons sorts rules w none contents named =
    let tests = none_holds (rule_tests (listed roles cons sorts rules) w) none in
    let n = no_fault roles cons sorts rules w none contents in
    let patterns = (sound_split cons w.patterns (uses_of w) n.sound).0 in
    let behind = w.params ++ results_of w.children in
    let free = each_append (IsFree (con_names cons)) (leaves_of (all_resolved (con_names cons) w.patterns)) behind
    (terms_free (con_names cons) w.patterns patterns.contents) (words_free (con_names cons) behind tests.1.1.1.0 named) in
    record {
      count = sym (variables_are (con_names cons) (sort_names sorts) w);
      differ = differ_behind [] (entering (con_names cons) w) tt n.once;
      free = each_map _ _ (entering (con_names cons) w) (λ v f. f.0) free;
      names = each_map _ _ (entering (con_names cons) w) (λ v f. f.1) free;
    }

-- there are no variables where there are no rules
pub no_variables : (cons : List Con) (sorts : List Sort) (rules : List Rule) → rules ≡ [] → ∥ AllVariablesFit cons sorts rules ∥₁
no_variables cons sorts [] e = ∣ tt ∣₁
no_variables cons sorts (r ∷ rules) e = cc

-- one rule more, without fault
pub more_variables : (roles : List (List ℕ)) (cons : List Con) (sorts : List Sort) (rules : List Rule) (w : WrittenRule) (r : Rule) (new : List Rule) → new ≡ rules ++ r ∷ []
    → entry sorts r ≡ entry_of (listed roles cons sorts rules) w → rule_kind (listed roles cons sorts rules) w ≡ None
    → all_have_contents (terms_of w) ≡ true → are_names (w.params ++ results_of w.children) ≡ true
    → ∥ AllVariablesFit cons sorts rules ∥₁ → ∥ AllVariablesFit cons sorts new ∥₁
more_variables roles cons sorts rules w r new e made none contents named fit =
    let here = subst (λ (z : Entry). VariablesFit (con_names cons) z.vars z.rule) (sym made) (entering_fit roles cons sorts rules w none contents named) in
    ∥∥₁_map fit (λ each. subst (λ rs. AllVariablesFit cons sorts rs) (sym e) (each_push _ rules r each here))
