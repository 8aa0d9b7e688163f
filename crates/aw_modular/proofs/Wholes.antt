-- The whole of parts: what is left to gather after one of them, and that no value of the whole depends on itself.
use Rattle.std.proofs.Common.{◌≡◌, ◌<◌, ℕ, suc, List, [], ◌∷◌, ◌++◌, map, length, Option, Some, None, refl, sym, ap, ◌∙◌, subst, inl, inr, append_assoc, arith, remove, slice_index_or}
use Rattle.std.proofs.Math.Logic.{∥∥₁_map, ∥∥₁_map₂, ∥∥₁_elim}
use Rattle.std.proofs.lemmas.List.{map-append}
use Rattle.aw_list.proofs.Members.{never, member_got}
use Rattle.aw_term.specs.Trees.{Never}
use Rattle.aw_term.specs.Rules as P
use Rattle.aw_term.specs.WellFormed.{Each}
use Rattle.aw_term.proofs.Eaches.{each_append as each_both}
use Rattle.aw_grammar.specs.declared.rule.Con.{Con}
use Rattle.aw_grammar.specs.declared.rule.Sort.{Sort}
use Rattle.aw_grammar.specs.declared.rule.Rule.{Rule}
use Rattle.aw_grammar.specs.declared.grammar.Grammar.{Grammar}
use Rattle.aw_grammar.specs.declared.grammar.Grammar.{Grammar as GrammarValue}
use Rattle.aw_grammar.specs.GrammarView.{rule_of, sorts_of}
use Rattle.aw_grammar.specs.GrammarOf.{grammar_of}
use Rattle.aw_grammar.specs.Variables.{VariablesFit, AllVariablesFit}
use Rattle.aw_iograph.specs.Dependence.{IO, HasNoCircle}
use Rattle.aw_iograph.specs.declared.occ.Occ.{Occ}
use Rattle.aw_accept.specs.declared.refused.Fault.{Fault}
use Rattle.aw_accept.specs.declared.refused.Refused.{Refused}
use Rattle.aw_accept.specs.declared.refused.Refused.TheVariants.{Circular, NoMemory}
use Rattle.aw_accept.specs.Refusals.{Tells}
use Rattle.aw_modular.specs.declared.shared.JoinFault.TheVariants.{Differs}
use Rattle.aw_accept.specs.Circular.{LeastFault}
use Rattle.aw_modular.specs.Roles as R
use Rattle.aw_modular.specs.declared.yes.RoleYes.{RoleYes}
use Rattle.aw_modular.specs.declared.shared.Shared.{Shared}
use Rattle.aw_modular.specs.Wholes.{shared_of, HaveRoles, AreInOrder, AllHave, AllShare, FirstOther, all_rules, Gathers, FitTogether, WouldFit, HasAll}
use Rattle.aw_modular.specs.Wholes.{IsWholeOf, yes_part, LieWithin, TakesAllIn, TakesIn, TellsDifference}
use Rattle.aw_modular.proofs.Joining.{lies_within, no_circle}

-- where the first of what is left has the same in common
pub have_goes : (kept : Shared) (y : RoleYes) (rest left : List RoleYes) → left ≡ y ∷ rest → shared_of y ≡ kept → AllHave kept rest → AllHave kept left
have_goes kept y rest left next same have = subst (AllHave kept) (sym next) (same, have)

pub other_goes : (kept came : Shared) (y : RoleYes) (rest left : List RoleYes) → left ≡ y ∷ rest → shared_of y ≡ kept → FirstOther kept came rest → FirstOther kept came left
other_goes kept came y rest left next same other = subst (FirstOther kept came) (sym next) (inr (same, other))

pub rules_go : (rules more : List Rule) (y : RoleYes) (rest left : List RoleYes) → left ≡ y ∷ rest → more ≡ y.part.grammar.rules → (rules ++ more) ++ all_rules rest ≡ rules ++ all_rules left
rules_go rules more y rest left next same =
    append_assoc rules more (all_rules rest) ∙ ap (λ rs. rules ++ (rs ++ all_rules rest)) same ∙ ap (λ ls. rules ++ all_rules ls) (sym next)

-- where it does not
pub other_here : (kept came : Shared) (y : RoleYes) (rest left : List RoleYes) → left ≡ y ∷ rest → came ≡ shared_of y → (came ≡ kept → Never) → FirstOther kept came left
other_here kept came y rest left next same differs = subst (FirstOther kept came) (sym next) (inl (sym same, differs))

pub variables_of_all : (s : Shared) (ys : List RoleYes) → AllHave s ys → ∥ AllVariablesFit s.cons s.sorts (all_rules ys) ∥₁
variables_of_all s [] have = ∣ tt ∣₁
variables_of_all s (y ∷ ys) (same, have) =
    ∥∥₁_map₂ (subst (λ (t : Shared). ∥ AllVariablesFit t.cons t.sorts y.part.grammar.rules ∥₁) same y.part.grammar.variables_fit) (variables_of_all s ys have)
    (each_both (λ (r : Rule). VariablesFit (map (λ (c : Con). c.name) s.cons) r.vars (rule_of s.sorts r)) y.part.grammar.rules (all_rules ys))

-- all say yes
pub all_say_yes : (s : Shared) (role : ℕ) (ys : List RoleYes) → HaveRoles role ys → AllHave s ys → ∥ R.AllSayYes s.offers s.declared role (map yes_part ys) ∥₁
all_say_yes s role [] order have = ∣ tt ∣₁
all_say_yes s role (y ∷ ys) (at, order) (same, have) =
    ∥∥₁_map₂ (subst (λ n. ∥ R.SaysYes s.offers s.declared n (yes_part y) ∥₁) at (subst (λ (t : Shared). ∥ R.SaysYes t.offers t.declared y.part.role (yes_part y) ∥₁) same y.says))
    (all_say_yes s (suc role) ys order have) (λ a b. (a, b))

-- the plain rules of all are those of the parts
plain_rules : (s : Shared) (ys : List RoleYes) → AllHave s ys → map (rule_of s.sorts) (all_rules ys) ≡ R.rules_of (map yes_part ys)
plain_rules s [] have = refl
plain_rules s (y ∷ ys) (same, have) =
    map-append (rule_of s.sorts) y.part.grammar.rules (all_rules ys)
    ∙ ap (λ rs. map (rule_of s.sorts) y.part.grammar.rules ++ rs) (plain_rules s ys have)
    ∙ ap (λ (t : Shared). map (rule_of t.sorts) y.part.grammar.rules ++ R.rules_of (map yes_part ys)) (sym same)

plain_sorts : (s : Shared) (ys : List RoleYes) → AllHave s ys → Each (λ (p : R.Part). p.grammar.sorts ≡ sorts_of s.sorts) (map yes_part ys)
plain_sorts s [] have = tt
plain_sorts s (y ∷ ys) (same, have) = (ap (λ (t : Shared). sorts_of t.sorts) same, plain_sorts s ys have)

joined : (s : Shared) (ys : List RoleYes) (g : Grammar) → AllHave s ys → HasAll s (all_rules ys) g → R.IsJoined (map yes_part ys) (grammar_of g)
joined s ys g have all = record {
  sorts = subst (λ (ss : List Sort). Each (λ (p : R.Part). p.grammar.sorts ≡ sorts_of ss) (map yes_part ys)) (sym all.sorts) (plain_sorts s ys have);
  rules = ap (map (rule_of g.sorts)) all.rules ∙ ap (λ (ss : List Sort). map (rule_of ss) (all_rules ys)) all.sorts ∙ plain_rules s ys have;
}

free_prop : (g : P.Grammar) (rel : ℕ → ℕ → ℕ → Type 0) → IsProp (HasNoCircle g rel)
free_prop g rel = λ a b i r m o w. never {A = a r m o w ≡ b r m o w} (a r m o w) i

-- so the whole has no circle, and its dependence relation lies within those of the roles
pub whole_free : (ys : List RoleYes) (g : Grammar) → AreInOrder ys → AllShare ys → IsWholeOf ys g → HasNoCircle (grammar_of g) (IO (grammar_of g))
whole_free [] g order share whole = never order
whole_free (y ∷ ys) g order share whole =
    let s = shared_of y in
    ∥∥₁_elim (all_say_yes s 0 (y ∷ ys) order (refl, share)) (free_prop (grammar_of g) (IO (grammar_of g)))
    (λ says. no_circle s.offers s.declared (map yes_part (y ∷ ys)) (grammar_of g) (joined s (y ∷ ys) g (refl, share) whole) says)

pub whole_within : (ys : List RoleYes) (g : Grammar) → AreInOrder ys → AllShare ys → IsWholeOf ys g → ∥ LieWithin ys g ∥₁
whole_within [] g order share whole = never order
whole_within (y ∷ ys) g order share whole =
    let s = shared_of y in
    ∥∥₁_map (all_say_yes s 0 (y ∷ ys) order (refl, share)) (λ says. lies_within s.offers s.declared (map yes_part (y ∷ ys)) (grammar_of g) (joined s (y ∷ ys) g (refl, share) whole) says)

-- what was gathered
pub gathers_share : (ys : List RoleYes) (s : Shared) (rules : List Rule) → Gathers ys s rules → AllShare ys
gathers_share [] s rules found = never found
gathers_share (y ∷ ys) s rules (is, have, all) = subst (λ t. AllHave t ys) is have

pub gathers_whole : (ys : List RoleYes) (s : Shared) (rules : List Rule) (g : Grammar) → Gathers ys s rules → HasAll s rules g → IsWholeOf ys g
gathers_whole [] s rules g found whole = never found
gathers_whole (y ∷ ys) s rules g (is, have, all) whole = subst (λ t. HasAll t (all_rules (y ∷ ys)) g) is (subst (λ rs. HasAll s rs g) all whole)

pub gathers_fit : (ys : List RoleYes) (s : Shared) (rules : List Rule) → Gathers ys s rules → WouldFit ys → FitTogether s rules
gathers_fit [] s rules found fit = never found
gathers_fit (y ∷ ys) s rules (is, have, all) fit =
    subst (λ t. FitTogether t rules) (sym is) (subst (FitTogether (shared_of y)) (sym all) (fit (subst (λ t. AllHave t ys) is have)))

pub gathers_variables : (ys : List RoleYes) (s : Shared) (rules : List Rule) → Gathers ys s rules → ∥ AllVariablesFit s.cons s.sorts rules ∥₁
gathers_variables [] s rules found = never found
gathers_variables (y ∷ ys) s rules (is, have, all) =
    subst (λ rs. ∥ AllVariablesFit s.cons s.sorts rs ∥₁) (sym all) (variables_of_all s (y ∷ ys) (sym is, have))

-- a grammar without circles is not refused for one
pub not_circular : (g : P.Grammar) (fault : Fault) → HasNoCircle g (IO g) → LeastFault g (Some fault) → Never
not_circular g fault free found = let (r, got, least) = found.0 in free r (member_got g.rules fault.rule r got) fault.occ least.0

-- rules that are added one by one
pub appended : (rules new : List Rule) (r : Rule) (rest left all : List Rule) → left ≡ r ∷ rest → new ≡ rules ++ r ∷ [] → rules ++ left ≡ all → new ++ rest ≡ all
appended rules new r rest left all next step so = ap (λ rs. rs ++ rest) step ∙ append_assoc rules (r ∷ []) rest ∙ ap (λ rs. rules ++ rs) (sym next) ∙ so

pub told_circular : (g h : GrammarValue) (e : Refused) (rule : ℕ) (occ : Occ) → e ≡ Circular h rule occ → HasNoCircle (grammar_of g) (IO (grammar_of g)) → Tells g e → ⊥
told_circular g h e rule occ is free told = never (not_circular (grammar_of g) (record { rule = rule; occ = occ }) free (subst (Tells g) is told).1)

-- what is told of a grammar without a circle is out of memory
pub told_memory : (g : GrammarValue) (e : Refused) → HasNoCircle (grammar_of g) (IO (grammar_of g)) → Tells g e → e ≡ NoMemory
told_memory g NoMemory free told = refl
told_memory g (Circular h rule occ) free told = absurd (told_circular g h (Circular h rule occ) rule occ refl free told)

-- what is known of a part whose rules were added, and of one whose were not
pub taken_in : (kept : Shared) (y : RoleYes) (old new : List Rule) (o : Option Shared) → o ≡ None → TakesIn kept y old new o → (shared_of y ≡ kept) × (new ≡ old ++ y.part.grammar.rules)
taken_in kept y old new o none taken = subst (TakesIn kept y old new) none taken

pub not_taken_in : (kept came : Shared) (y : RoleYes) (old new : List Rule) (o : Option Shared) → o ≡ Some came → TakesIn kept y old new o → (came ≡ shared_of y) × (came ≡ kept → Never)
not_taken_in kept came y old new o some taken = subst (TakesIn kept y old new) some taken

-- what one part has that differs from the first, where others were passed
pub differs_here : (parts : List RoleYes) (first : RoleYes) (ys : List RoleYes) (kept came : Shared) → parts ≡ first ∷ ys → kept ≡ shared_of first →
    FirstOther kept came ys → TellsDifference parts (Differs kept came)
differs_here parts first ys kept came is same other = subst (λ ps. TellsDifference ps (Differs kept came)) (sym is) (same, other)

-- parts in order are one at least
pub first_one : (parts : List RoleYes) → AreInOrder parts → 0 < length parts
first_one [] order = never order
first_one (y ∷ ys) order = omega arith

-- the first of them, and the others
pub first_and_others : (parts : List RoleYes) (first : RoleYes) → AreInOrder parts → first ≡ slice_index_or parts 0 first → parts ≡ first ∷ remove parts 0
first_and_others [] first order is = never order
first_and_others (y ∷ ys) first order is = ap (λ z. z ∷ ys) (sym is)

-- what is gathered where the others have the same in common as the first
pub gathered_all : (parts : List RoleYes) (first : RoleYes) (ys : List RoleYes) (kept : Shared) (old new : List Rule) (o : Option Shared) →
    parts ≡ first ∷ ys → kept ≡ shared_of first → old ≡ first.part.grammar.rules → o ≡ None
    → TakesAllIn kept ys old new o → Gathers parts kept new
gathered_all parts first ys kept old new o is same rules none taken =
    let all = subst (TakesAllIn kept ys old new) none taken in
    subst (λ ps. Gathers ps kept new) (sym is) (same, all.0, all.1 ∙ ap (λ rs. rs ++ all_rules ys) rules)

-- what is told where one has another
pub gathered_other : (parts : List RoleYes) (first : RoleYes) (ys : List RoleYes) (kept came : Shared) (old new : List Rule) (o : Option Shared) →
    parts ≡ first ∷ ys → kept ≡ shared_of first → o ≡ Some came
    → TakesAllIn kept ys old new o → TellsDifference parts (Differs kept came)
gathered_other parts first ys kept came old new o is same some taken = differs_here parts first ys kept came is same (subst (TakesAllIn kept ys old new) some taken)
