-- The last item of a list, and the rule that was declared last.
use Rattle.std.proofs.Common.{◌≡◌, ℕ, zero, suc, ◌+◌, ◌≤◌, sym, ◌∙◌, ap, subst, List, [], ◌∷◌, ◌++◌, map, length, slice_get, arith, Option, Some, None, Ok, length-append}
use Rattle.std.proofs.lemmas.List.{length-map}
use Rattle.std.proofs.lemmas.Option.{same_Some}
use Rattle.aw_term.specs.Limits.{most_children}
use Rattle.aw_grammar.specs.declared.rule.Sort.{Sort}
use Rattle.aw_grammar.specs.declared.rule.Rule.{Rule}
use Rattle.aw_grammar.specs.declared.grammar.Grammar.{Grammar}
use Rattle.aw_grammar.specs.Build.{Added}
use Rattle.aw_grammar.specs.Declarations.{Declarations, Entry, entry_of, with_rule}
use Rattle.aw_grammar.specs.GrammarOf.{declarations_of, entry}
use Rattle.aw_grammar.specs.GrammarView.{sorts_of, child_of, rule_of}
use Rattle.aw_grammar.specs.Kinds.{rule_kind}
use Rattle.aw_grammar.specs.Written.{WrittenRule}
use Rattle.aw_face.specs.declared.faces.FaceKind.{FaceKind}
use Rattle.aw_face.specs.Faces.{rule_fault}
use Rattle.aw_spec.specs.declared.draft.Draft.{Draft}
use Rattle.aw_spec.specs.LineAnswers.{spec_so_far}
use Rattle.aw_spec.specs.Lines.{RuleLine}
use Rattle.aw_spec.specs.Reading.{Spec, says, declaring, keeping, if_kept}

-- what the last item of a list is mapped to
pub at_last : {A B : Type 0} (f : A → B) (xs : List A) (front : List B) (y : B) (i : ℕ) (x : A) → i + 1 ≡ length xs → map f xs ≡ front ++ y ∷ [] → slice_get xs i ≡ Some x → f x ≡ y
at_last f [] front y i x l e g = absurd (omega arith)
at_last f (a ∷ []) [] y zero x l e g = ap f (sym (same_Some a x g)) ∙ first f a [] y [] e
  where
    first : {A B : Type 0} (f : A → B) (a : A) (bs : List B) (y : B) (cs : List B) → f a ∷ bs ≡ y ∷ cs → f a ≡ y
    first f a bs y cs e = cc
at_last f (a ∷ []) (b ∷ bs) y zero x l e g = absurd (omega (arith, ap length e, length-append bs (y ∷ [])))
at_last f (a ∷ []) front y (suc i) x l e g = absurd (omega arith)
at_last f (a ∷ b ∷ more) front y zero x l e g = absurd (omega arith)
at_last f (a ∷ b ∷ more) [] y (suc i) x l e g = absurd (omega (arith, ap length e))
at_last f (a ∷ b ∷ more) (c ∷ cs) y (suc i) x l e g = at_last f (b ∷ more) cs y i x (omega (arith, l)) (behind (f a) c (map f (b ∷ more)) (cs ++ y ∷ []) e) g
  where
    behind : {B : Type 0} (p q : B) (ps qs : List B) → p ∷ ps ≡ q ∷ qs → ps ≡ qs
    behind p q ps qs e = cc

pub few_children : (sorts : List Sort) (r : Rule) → length (rule_of sorts r).children ≤ most_children → length r.children ≤ most_children
few_children sorts r h = omega (arith, h, length-map r.children (child_of sorts))

-- a rule that is declared, and whose children are looked at
kept : (s : Spec) (r : WrittenRule) (o : Option (ℕ × FaceKind)) → rule_kind s.declared r ≡ None → rule_fault (sorts_of s.declared.sorts) s.offers s.uses (entry_of s.declared r).rule ≡ o →
    says s (RuleLine r) ≡ if_kept (record s { declared = with_rule s.declared r }) o
kept s r o e h = ap (λ k. keeping s r (declaring s k (with_rule s.declared r))) e ∙ ap (if_kept (record s { declared = with_rule s.declared r })) h

-- the same of a draft whose grammar was taken out and declares the rule now, by what is told of its last rule
last_kept : (d : Draft) (taken g : Grammar) (r : WrittenRule) (o : Option (ℕ × FaceKind)) → taken ≡ d.grammar →
    Added (rule_kind (declarations_of taken) r) (with_rule (declarations_of taken) r) (Ok g) →
    ((front : List Entry) (e : Entry) → map (entry g.sorts) g.rules ≡ front ++ e ∷ [] → o ≡ rule_fault (sorts_of g.sorts) d.faces.offers d.faces.uses e.rule) →
    says (spec_so_far d) (RuleLine r) ≡ if_kept (record (spec_so_far d) { declared = declarations_of g }) o
last_kept d taken g r o out declared told =
    let s = spec_so_far d in
    let before = d.grammar in
    let added = subst (λ (x : Grammar). Added (rule_kind (declarations_of x) r) (with_rule (declarations_of x) r) (Ok g)) out declared in
    let found = told (map (entry before.sorts) before.rules) (entry_of s.declared r) (ap (λ (x : Declarations). x.rules) added.1) in
    let sorts : g.sorts ≡ before.sorts = ap (λ (x : Declarations). x.sorts) added.1 in
    kept s r o added.0 (ap (λ ss. rule_fault (sorts_of ss) s.offers s.uses (entry_of s.declared r).rule) (sym sorts) ∙ sym found)
    ∙ ap (λ (x : Declarations). if_kept (record s { declared = x }) o) (sym added.1)

-- the same where that grammar was put in the place of the one that was taken out
pub put_kept : (d : Draft) (taken g put : Grammar) (r : WrittenRule) (o : Option (ℕ × FaceKind)) → taken ≡ d.grammar →
    Added (rule_kind (declarations_of taken) r) (with_rule (declarations_of taken) r) (Ok g) → put ≡ g →
    ((front : List Entry) (e : Entry) → map (entry put.sorts) put.rules ≡ front ++ e ∷ [] → o ≡ rule_fault (sorts_of put.sorts) d.faces.offers d.faces.uses e.rule) →
    says (spec_so_far d) (RuleLine r) ≡ if_kept (record (spec_so_far d) { declared = declarations_of put }) o
put_kept d taken g put r o out declared same told =
    last_kept d taken put r o out (subst (λ (x : Grammar). Added (rule_kind (declarations_of taken) r) (with_rule (declarations_of taken) r) (Ok x)) (sym same) declared) told
