-- The grammar of the clinic and its laboratory is accepted.
use Rattle.std.proofs.Common.{◌≡◌, ℕ, zero, suc, ◌<◌, Bool, true, false, [], ◌∷◌, Some, None, sym, ap, subst, inl, inr, arith, refl}
use Rattle.std.specs.Prelude.{option_and_then, slice_get}
use Rattle.std.proofs.lemmas.Option.{same_Some}
use Rattle.aw_list.proofs.Members.{never}
use Rattle.aw_term.specs.Trees.{Never, Con, Leaf, Made, Nil, More, In}
use Rattle.aw_term.specs.Rules.{Term, Child, Rule, get}
use Rattle.aw_term.specs.WellFormed.{RuleFits, IsWellFormed}
use Rattle.aw_iograph.specs.declared.occ.Occ.{Occ}
use Rattle.aw_iograph.specs.Graphs.{Plus}
use Rattle.aw_iograph.specs.Occurrences.{inherited, given, item, entries, term_at}
use Rattle.aw_iograph.specs.Dependence.{Edge, text, call, IO, HasNoCircle}
use Rattle.aw_iograph.proofs.Reaching.{rises}
use Rattle.aw_law_sites.specs.Laws.{IsAccepted}
use Rattle.aw_law_sites.specs.Worked.{clinic, clinic_words}

abbrev blood : Term
blood = Made (Con 0) (More (Leaf 0) Nil)

abbrev pair : ℕ → Term
pair c = Made (Con c) (More (Leaf 0) (More (Leaf 1) Nil))

abbrev admit : Rule
admit = record { sort = 0; patterns = []; params = 1; results = pair 1 ∷ []; children = record { sort = 1; args = blood ∷ []; outs = 1 } ∷ [] }

abbrev analyse : Rule
analyse = record { sort = 1; patterns = blood ∷ []; params = 1; results = pair 2 ∷ []; children = [] }

abbrev skip : Rule
skip = record { sort = 1; patterns = Leaf 0 ∷ []; params = 0; results = Made (Con 3) Nil ∷ []; children = [] }

formed : IsWellFormed clinic_words clinic
formed = record {
  roles = refl;
  all_cons = refl;
  all_sorts = refl;
  all_rules = refl;
  few_roles = omega arith;
  few_cons = omega arith;
  few_sorts = omega arith;
  few_rules = omega arith;
  names = (refl, (refl, (refl, (refl, (refl, (refl, (refl, (refl, (refl, (refl, (refl, tt)))))))))));
  roles_differ = (((λ e. differ 99 108 (ap (λ xs. get 0 xs 0) e) (λ z. absurd (omega (arith, z)))), tt), (tt, tt));
  cons_differ = (
    (
      (λ e. differ 98 114 (ap (λ xs. get 0 xs 0) e) (λ z. absurd (omega (arith, z)))),
      (
        (λ e. differ 98 102 (ap (λ xs. get 0 xs 0) e) (λ z. absurd (omega (arith, z)))),
        ((λ e. differ 98 110 (ap (λ xs. get 0 xs 0) e) (λ z. absurd (omega (arith, z)))), tt),
      ),
    ),
    (
      ((λ e. differ 114 102 (ap (λ xs. get 0 xs 0) e) (λ z. absurd (omega (arith, z)))), ((λ e. differ 114 110 (ap (λ xs. get 0 xs 0) e) (λ z. absurd (omega (arith, z)))), tt)),
      (((λ e. differ 102 110 (ap (λ xs. get 0 xs 0) e) (λ z. absurd (omega (arith, z)))), tt), (tt, tt)),
    ),
  );
  sorts_differ = (((λ e. differ 118 116 (ap (λ xs. get 0 xs 0) e) (λ z. absurd (omega (arith, z)))), tt), (tt, tt));
  rules_differ = (
    ((λ e. differ 100 110 (ap (λ xs. get 0 xs 1) e) (λ z. absurd (omega (arith, z)))), ((λ e. differ 97 115 (ap (λ xs. get 0 xs 0) e) (λ z. absurd (omega (arith, z)))), tt)),
    (((λ e. differ 97 115 (ap (λ xs. get 0 xs 0) e) (λ z. absurd (omega (arith, z)))), tt), (tt, tt)),
  );
  arities = (omega arith, (omega arith, (omega arith, (omega arith, tt))));
  sorts = (
    record { declared = omega arith; few_takes = omega arith; few_gives = omega arith; start = λ e. refl },
    (record { declared = omega arith; few_takes = omega arith; few_gives = omega arith; start = λ e. absurd cc }, tt),
  );
  rules = (admit_fits, (analyse_fits, (skip_fits, tt)));
}
  where
    differ : (m n : ℕ) → m ≡ n → (m ≡ n → Never) → ⊥
    differ m n e f = never (f e)

    admit_fits : RuleFits clinic admit
    admit_fits = record {
      declared = omega arith;
      takes = refl;
      gives = refl;
      few_params = omega arith;
      few_children = omega arith;
      few_variables = omega arith;
      few_symbols = omega arith;
      numbered = refl;
      patterns = tt;
      results = (record { heads = refl; depth = omega arith }, tt);
      enter = (omega arith, (omega arith, tt));
      children = (record { declared = omega arith; takes = refl; gives = refl; terms = (record { heads = refl; depth = omega arith }, tt); enter = (omega arith, tt) }, tt);
    }

    analyse_fits : RuleFits clinic analyse
    analyse_fits = record {
      declared = omega arith;
      takes = refl;
      gives = refl;
      few_params = omega arith;
      few_children = omega arith;
      few_variables = omega arith;
      few_symbols = omega arith;
      numbered = refl;
      patterns = (record { heads = refl; depth = omega arith }, tt);
      results = (record { heads = refl; depth = omega arith }, tt);
      enter = (omega arith, (omega arith, tt));
      children = tt;
    }

    skip_fits : RuleFits clinic skip
    skip_fits = record {
      declared = omega arith;
      takes = refl;
      gives = refl;
      few_params = omega arith;
      few_children = omega arith;
      few_variables = omega arith;
      few_symbols = omega arith;
      numbered = refl;
      patterns = (record { heads = refl; depth = omega arith }, tt);
      results = (record { heads = refl; depth = omega arith }, tt);
      enter = tt;
      children = tt;
    }

-- each step rises: inherited values, what children inherit, what they give, results
abbrev rank_at : ℕ → Bool → ℕ
rank_at zero false = 0
rank_at zero true = 3
rank_at (suc k) false = 1
rank_at (suc k) true = 2

abbrev rank : Occ → ℕ
rank o = rank_at o.child o.result

no_round : (E : Occ → Occ → Type 0) → ((o u : Occ) → E o u → rank o < rank u) → (o : Occ) → Plus E o o → Never
no_round E up o w = let a = rises E rank up w in absurd (omega (arith, a))

up : (r : Rule) (rel : ℕ → ℕ → ℕ → Type 0) → ((v : ℕ) (o : Occ) (k : ℕ) (b : Bool) (n : ℕ) (t : Term) → get None (entries r) v ≡ Some o →
    term_at r (record { child = k; result = b; number = n }) ≡ Some t → In v t → rank o < rank_at k b)
    → (o u : Occ) → Edge r rel o u → rank o < rank u
up r rel f o u (text v t a b x) = f v o u.child u.result u.number t a b x
up r rel f _ _ (call zero i l c a x) = absurd cc
up r rel f _ _ (call (suc k) i l c a x) = omega arith

-- in a rule without children only its results use variables
to_result : (r : Rule) → r.children ≡ [] → (k : ℕ) (b : Bool) (n : ℕ) (t : Term) → term_at r (record { child = k; result = b; number = n }) ≡ Some t → 0 < rank_at k b
to_result r c zero true n t e = omega arith
to_result r c zero false n t e = absurd cc
to_result r c (suc k) true n t e = absurd cc
to_result r c (suc k) false n t e = let z = subst (λ cs. option_and_then (λ (d : Child). item d.args n) (slice_get cs k) ≡ Some t) c e in absurd cc

from_pattern : (o : Occ) (k : ℕ) (b : Bool) → inherited 0 1 ≡ o → 0 < rank_at k b → rank o < rank_at k b
from_pattern o k b e l = subst (λ o. rank o < rank_at k b) e l

analyse_text : (v : ℕ) (o : Occ) (k : ℕ) (b : Bool) (n : ℕ) (t : Term) → get None (entries analyse) v ≡ Some o →
    term_at analyse (record { child = k; result = b; number = n }) ≡ Some t → In v t → rank o < rank_at k b
analyse_text zero o k b n t a e i = from_pattern o k b (same_Some _ _ a) (to_result analyse refl k b n t e)
analyse_text (suc zero) o k b n t a e i = absurd cc
analyse_text (suc (suc v)) o k b n t a e i = absurd cc

skip_text : (v : ℕ) (o : Occ) (k : ℕ) (b : Bool) (n : ℕ) (t : Term) → get None (entries skip) v ≡ Some o →
    term_at skip (record { child = k; result = b; number = n }) ≡ Some t → In v t → rank o < rank_at k b
skip_text zero o k b n t a e i = from_pattern o k b (same_Some _ _ a) (to_result skip refl k b n t e)
skip_text (suc v) o k b n t a e i = absurd cc

-- the name of the child's result stands in the report alone
not_in_blood : In {A = ℕ} 1 blood → Never
not_in_blood (inl e) = absurd (omega (arith, e))
not_in_blood (inr e) = e

to_report : (k : ℕ) (b : Bool) (n : ℕ) (t : Term) → term_at admit (record { child = k; result = b; number = n }) ≡ Some t → In {A = ℕ} 1 t → 2 < rank_at k b
to_report zero true n t e i = omega arith
to_report zero false n t e i = absurd cc
to_report (suc k) true n t e i = absurd cc
to_report (suc zero) false zero t e i = absurd cc
to_report (suc zero) false (suc zero) t e i = never (not_in_blood (subst (In {A = ℕ} 1) (sym (same_Some _ _ e)) i))
to_report (suc zero) false (suc (suc n)) t e i = absurd cc
to_report (suc (suc k)) false n t e i = absurd cc

admit_text : (v : ℕ) (o : Occ) (k : ℕ) (b : Bool) (n : ℕ) (t : Term) → get None (entries admit) v ≡ Some o →
    term_at admit (record { child = k; result = b; number = n }) ≡ Some t → In v t → rank o < rank_at k b
admit_text zero o k b n t a e i = absurd cc
admit_text (suc zero) o k b n t a e i = subst (λ o. rank o < rank_at k b) (same_Some (given 1 1) o a) (to_report k b n t e i)
admit_text (suc (suc v)) o k b n t a e i = absurd cc

no_circle : HasNoCircle clinic (IO clinic)
no_circle r (inl e) o w = no_round (Edge admit (IO clinic)) (up admit (IO clinic) admit_text) o (subst (λ r. Plus (Edge r (IO clinic)) o o) e w)
no_circle r (inr (inl e)) o w = no_round (Edge analyse (IO clinic)) (up analyse (IO clinic) analyse_text) o (subst (λ r. Plus (Edge r (IO clinic)) o o) e w)
no_circle r (inr (inr (inl e))) o w = no_round (Edge skip (IO clinic)) (up skip (IO clinic) skip_text) o (subst (λ r. Plus (Edge r (IO clinic)) o o) e w)
no_circle r (inr (inr (inr m))) o w = never m

pub clinic_accepted : IsAccepted clinic_words clinic
clinic_accepted = (formed, no_circle)
