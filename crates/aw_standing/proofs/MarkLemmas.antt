-- The marks of a record before any test.
use Rattle.std.proofs.Common.{◌≡◌, ℕ, zero, suc, ◌+◌, Bool, true, false, cond, List, [], ◌∷◌, ◌++◌, length, map, Option, Some, None, slice_get, refl}
use Rattle.std.proofs.Common.{sym, ap, ◌∙◌, subst, arith, drop, append_assoc, add-one}
use Rattle.std.specs.Prelude.{nat_eq, All, option_map}
use Rattle.std.proofs.lemmas.Option.{slice_get-map}
use Rattle.std.proofs.Common.{Bor}
use Rattle.std.specs.Option.{option_copied}
use Rattle.std.proofs.lemmas.List.{length-map}
use Rattle.std.proofs.lemmas.Bool.{eqb-true}
use Rattle.aw_list.proofs.Everyday.{from_here}
use Rattle.aw_term.specs.Names.{Node, Ref}
use Rattle.aw_term.specs.Rules.{Rule, Grammar, sort_of}
use Rattle.aw_term.specs.WellFormed.{takes_of}
use Rattle.aw_node_list.specs.HeldView.{sort_or}
use Rattle.aw_store.specs.NamedRefs.{AreNamed}
use Rattle.aw_store.proofs.SlotLemmas.{named_live}
use Rattle.aw_grammar.specs.declared.grammar.Grammar.{Grammar as G}
use Rattle.aw_grammar.specs.declared.rule.Rule.{Rule as GrammarRule}
use Rattle.aw_grammar.specs.GrammarView.{rule_of}
use Rattle.aw_grammar.specs.GrammarOf.{grammar_of}
use Rattle.aw_standing.specs.declared.record.Stands.TheVariants as stands
use Rattle.aw_standing.specs.declared.record.Mark.{Mark}
use Rattle.aw_standing.specs.declared.record.Record.{Record}
use Rattle.aw_standing.specs.Records.{AreRising, IsFit, mark_rule, rules_of, is_of_sort, has_live}
use Rattle.aw_standing.specs.Due.{due_of, due_marks}
use Rattle.aw_standing.proofs.Rising.{rules_rise}
use Rattle.aw_standing.specs.Tested.{IsUntested}

-- each of the rules of a sort is of that sort
pub rule_listed : (s : ℕ) (all : List Rule) (i : ℕ) (rules : List Rule) → ((m : ℕ) → slice_get rules m ≡ slice_get all (m + i)) → (j n : ℕ) → slice_get (rules_of s i rules) j ≡ Some n →
    is_of_sort s (slice_get all n) ≡ true
rule_listed s all i [] e j n f = absurd cc
rule_listed s all i (rule ∷ rules) e j n f = by (λ q. rule_listed s all (suc i) rules (λ m. e (suc m) ∙ ap (slice_get all) (omega arith)) q n) (nat_eq rule.sort s) refl j f
  where
    by : ((q : ℕ) → slice_get (rules_of s (suc i) rules) q ≡ Some n → is_of_sort s (slice_get all n) ≡ true) → (b : Bool) → nat_eq rule.sort s ≡ b → (j : ℕ) →
        slice_get (cond b (i ∷ rules_of s (suc i) rules) (rules_of s (suc i) rules)) j ≡ Some n → is_of_sort s (slice_get all n) ≡ true
    by rest false t j f = rest j f
    by rest true t zero f =
        let same : i ≡ n = cc in
        ap (λ z. is_of_sort s (slice_get all z)) (sym same) ∙ ap (is_of_sort s) (sym (e 0 ∙ ap (slice_get all) (omega arith))) ∙ t
    by rest true t (suc j) f = rest j f

pub marks_listed : (g : Grammar) (s : ℕ) (ms : List Mark) → map mark_rule ms ≡ rules_of s 0 g.rules → (j : ℕ) (m : Mark) → slice_get ms j ≡ Some m → is_of_sort s (slice_get g.rules m.rule) ≡ true
marks_listed g s ms e j m f =
    rule_listed s g.rules 0 g.rules (λ i. ap (slice_get g.rules) (omega arith)) j m.rule
    (ap (λ l. slice_get l j) (sym e) ∙ slice_get-map mark_rule ms j ∙ ap (option_map mark_rule) f)

-- marks that were not tested wait for nothing
pub untested_fresh : (n : ℕ) (ms : List Mark) → All IsUntested ms → due_marks n ms ≡ []
untested_fresh n [] all = refl
untested_fresh n (m ∷ ms) all =
    let here : m.stands ≡ stands.TooDeep = all 0 m (omega arith) in
    ap (λ s. due_of n m.rule s ++ due_marks n ms) here ∙ untested_fresh n ms (λ k d l. all (suc k) d (omega (arith, l)))

pub untested_live : (n : ℕ) (ms : List Mark) → All IsUntested ms → (j : ℕ) (m : Mark) → slice_get ms j ≡ Some m → has_live n m.stands ≡ true
untested_live n [] all j m e = absurd cc
untested_live n (k ∷ ms) all zero m e =
    let same : k ≡ m = cc in
    let here : k.stands ≡ stands.TooDeep = all 0 k (omega arith) in
    subst (λ (z : Mark). has_live n z.stands ≡ true) same (ap (has_live n) here)
untested_live n (k ∷ ms) all (suc j) m e = untested_live n ms (λ i d l. all (suc i) d (omega (arith, l))) j m e

none_here : {A : Type 0} (xs : List A) (n : ℕ) → slice_get xs n ≡ None → (drop n xs ≡ []) × (drop (suc n) xs ≡ [])
none_here [] zero e = (refl, refl)
none_here [] (suc n) e = (refl, refl)
none_here (y ∷ ys) zero e = absurd cc
none_here (y ∷ ys) (suc n) e = none_here ys n e

-- the rule with a number, as the plain definitions have it
pub plain_here : (g : G) (number : ℕ) (rule : GrammarRule) → slice_get g.rules number ≡ Some rule → slice_get (grammar_of g).rules number ≡ Some (rule_of g.sorts rule)
plain_here g number rule here = slice_get-map (rule_of g.sorts) g.rules number ∙ ap (option_map (rule_of g.sorts)) here

pub plain_past : (g : G) (number : ℕ) → slice_get g.rules number ≡ None → slice_get (grammar_of g).rules number ≡ None
plain_past g number past = slice_get-map (rule_of g.sorts) g.rules number ∙ ap (option_map (rule_of g.sorts)) past

-- and by its number: the program's rule
pub rule_back : (g : G) (number : ℕ) (rule : GrammarRule) (other : Rule) → slice_get g.rules number ≡ Some rule → slice_get (grammar_of g).rules number ≡ Some other → other ≡ rule_of g.sorts rule
rule_back g number rule other here e = let f = plain_here g number rule here in cc

-- a rule of the sort is one more
pub rule_kept : (s n : ℕ) (rules : List Rule) (rule : Rule) (ms : List ℕ) → slice_get rules n ≡ Some rule → nat_eq rule.sort s ≡ true →
    (ms ++ n ∷ []) ++ rules_of s (n + 1) (drop (n + 1) rules) ≡ ms ++ rules_of s n (drop n rules)
rule_kept s n rules rule ms here same = rw (add-one n, from_here rules n rule here, same) (append_assoc ms _ _)

-- a rule of another sort is none
pub rule_passed : (s n : ℕ) (rules : List Rule) (rule : Rule) (ms : List ℕ) → slice_get rules n ≡ Some rule → nat_eq rule.sort s ≡ false →
    ms ++ rules_of s (n + 1) (drop (n + 1) rules) ≡ ms ++ rules_of s n (drop n rules)
rule_passed s n rules rule ms here other = rw (add-one n, from_here rules n rule here, other) refl

-- there is no rule with this number
pub rule_past : (s n : ℕ) (rules : List Rule) (ms : List ℕ) → slice_get rules n ≡ None → ms ++ rules_of s (n + 1) (drop (n + 1) rules) ≡ ms ++ rules_of s n (drop n rules)
rule_past s n rules ms past = rw (add-one n, (none_here rules n past).0, (none_here rules n past).1) refl

-- the rule that was found
pub found_rule : (rules : List GrammarRule) (number : ℕ) (found : Option (Bor GrammarRule)) (rule : Bor GrammarRule) → option_copied found ≡ slice_get rules number →
    found ≡ Some rule → slice_get rules number ≡ Some rule.now
found_rule rules number found rule e f = sym e ∙ ap option_copied f

pub no_rule : (rules : List GrammarRule) (number : ℕ) (found : Option (Bor GrammarRule)) → option_copied found ≡ slice_get rules number → found ≡ None → slice_get rules number ≡ None
no_rule rules number found e f = sym e ∙ ap option_copied f

-- a record that was made is fit
pub fit_prepared : (g : Grammar) (names : List Ref) (n : Node) (rs : List Ref) (x : Record) → sort_or (sort_of g n) ≡ x.sort → AreNamed names x.slots.items rs →
    length rs ≡ takes_of (slice_get g.sorts (sort_or (sort_of g n))) → map mark_rule x.marks.items ≡ rules_of x.sort 0 g.rules → All IsUntested x.marks.items → IsFit g names x
fit_prepared g names n rs x sort named takes rules untested = record {
  live = named_live names x.slots.items rs named;
  takes = sym (length-map x.slots.items (slice_get names)) ∙ ap length named ∙ length-map rs Some ∙ takes ∙ ap (λ s. takes_of (slice_get g.sorts s)) sort;
  rules = marks_listed g x.sort x.marks.items rules;
  rising = subst AreRising (sym rules) (rules_rise x.sort 0 g.rules);
  stand = untested_live (length names) x.marks.items untested;
}

-- the rule of a mark is of the record's sort
pub mark_sort : (g : G) (s number : ℕ) (rule : GrammarRule) → slice_get g.rules number ≡ Some rule → is_of_sort s (slice_get (grammar_of g).rules number) ≡ true → rule.sort ≡ s
mark_sort g s number rule here e = eqb-true rule.sort s (sym (ap (is_of_sort s) (plain_here g number rule here)) ∙ e)

pub no_mark : (g : G) (s number : ℕ) → slice_get g.rules number ≡ None → is_of_sort s (slice_get (grammar_of g).rules number) ≡ true → ⊥
no_mark g s number past e = let f = ap (is_of_sort s) (plain_past g number past) in absurd cc

pub one_mark : (ms : List Mark) (i : ℕ) (m k : Mark) → slice_get ms i ≡ Some m → slice_get ms i ≡ Some k → m ≡ k
one_mark ms i m k e f = cc
