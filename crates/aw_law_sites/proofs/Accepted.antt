-- A grammar in which a node is fed by its own result is accepted: the laws speak of such.
use Rattle.std.proofs.Common.{◌≡◌, ℕ, zero, suc, ◌<◌, Bool, true, false, [], ◌∷◌, Some, None, refl, sym, ap, ◌∙◌, subst, inl, inr, arith}
use Rattle.std.proofs.lemmas.Option.{same_Some}
use Rattle.aw_list.proofs.Members.{never}
use Rattle.aw_term.specs.Trees.{Never, Con, Leaf, Made, Nil, More, In}
use Rattle.aw_term.specs.Rules.{Term, Child, Rule, get, child_at}
use Rattle.aw_term.specs.WellFormed.{RuleFits, IsWellFormed}
use Rattle.aw_iograph.specs.declared.occ.Occ.{Occ}
use Rattle.aw_iograph.specs.Graphs.{Plus, step, more}
use Rattle.aw_iograph.specs.Occurrences.{inherited, given, entries, term_at}
use Rattle.aw_iograph.specs.Dependence.{Edge, text, call, io, IO, HasNoCircle}
use Rattle.aw_law_sites.specs.Laws.{IsAccepted}
use Rattle.aw_law_sites.specs.WorkedChoices.{own_words, own_result}
use Rattle.aw_iograph.proofs.Reaching.{rises}

abbrev ok : Term
ok = Made (Con 0) Nil

abbrev calls : Rule
calls = record { sort = 0; patterns = []; params = 0; results = Made (Con 1) (More (Leaf 0) (More (Leaf 1) Nil)) ∷ []; children = record { sort = 1; args = Leaf 1 ∷ []; outs = 2 } ∷ [] }

abbrev body : Rule
body = record { sort = 1; patterns = Leaf 0 ∷ []; params = 0; results = Leaf 0 ∷ ok ∷ []; children = [] }

formed : IsWellFormed own_words own_result
formed = record {
  roles = refl;
  all_cons = refl;
  all_sorts = refl;
  all_rules = refl;
  few_roles = omega arith;
  few_cons = omega arith;
  few_sorts = omega arith;
  few_rules = omega arith;
  names = (refl, (refl, (refl, (refl, (refl, (refl, (refl, tt)))))));
  roles_differ = (tt, tt);
  cons_differ = (((λ e. absurd cc), tt), (tt, tt));
  sorts_differ = (((λ e. absurd cc), tt), (tt, tt));
  rules_differ = (((λ e. let z : 99 ≡ 98 = ap (λ xs. get 0 xs 0) e in absurd (omega (arith, z))), tt), (tt, tt));
  arities = (omega arith, (omega arith, tt));
  sorts = (
    record { declared = omega arith; few_takes = omega arith; few_gives = omega arith; start = λ e. refl },
    (record { declared = omega arith; few_takes = omega arith; few_gives = omega arith; start = λ e. absurd cc }, tt),
  );
  rules = (calls_fits, (body_fits, tt));
}
  where
    calls_fits : RuleFits own_result calls
    calls_fits = record {
      declared = omega arith;
      takes = refl;
      gives = refl;
      few_params = omega arith;
      few_children = omega arith;
      few_variables = omega arith;
      few_symbols = omega arith;
      numbered = refl;
      patterns = tt;
      results = (record { heads = refl; depth = omega arith }, tt);
      enter = (omega arith, (omega arith, tt));
      children = (record { declared = omega arith; takes = refl; gives = refl; terms = (record { heads = refl; depth = omega arith }, tt); enter = (omega arith, tt) }, tt);
    }

    body_fits : RuleFits own_result body
    body_fits = record {
      declared = omega arith;
      takes = refl;
      gives = refl;
      few_params = omega arith;
      few_children = omega arith;
      few_variables = omega arith;
      few_symbols = omega arith;
      numbered = refl;
      patterns = (record { heads = refl; depth = omega arith }, tt);
      results = (record { heads = refl; depth = omega arith }, (record { heads = refl; depth = omega arith }, tt));
      enter = (omega arith, tt);
      children = tt;
    }

-- where a number rises with each step no walk comes back
no_round : (E : Occ → Occ → Type 0) (rank : Occ → ℕ) (up : (o u : Occ) → E o u → rank o < rank u) (o : Occ) → Plus E o o → Never
no_round E rank up o w = let a = rises E rank up w in absurd (omega (arith, a))

-- the rule that answers: from its inherited value to its first result
body_from : (v : ℕ) (o : Occ) → get None (entries body) v ≡ Some o → (v ≡ 0) × (o ≡ inherited 0 1)
body_from zero o e = (refl, sym (same_Some _ _ e))
body_from (suc v) o e = absurd cc

body_to : (k : ℕ) (b : Bool) (n : ℕ) (t : Term) → term_at body (record { child = k; result = b; number = n }) ≡ Some t → In 0 t →
    ◌≡◌ {A = Occ} (record { child = k; result = b; number = n }) (given 0 1)
body_to zero true zero t e i = absurd cc
body_to zero true (suc zero) t e i = refl
body_to zero true (suc (suc zero)) t e i = never (subst (In 0) (sym (same_Some _ _ e)) i)
body_to zero true (suc (suc (suc n))) t e i = absurd cc
body_to zero false n t e i = absurd cc
body_to (suc k) true n t e i = absurd cc
body_to (suc k) false n t e i = absurd cc

body_edge : (rel : ℕ → ℕ → ℕ → Type 0) (o u : Occ) → Edge body rel o u → (o ≡ inherited 0 1) × (u ≡ given 0 1)
body_edge rel o u (text v t a b x) =
    let (z, f) = body_from v o a in
    (f, body_to u.child u.result u.number t b (subst (λ v. In v t) z x))
body_edge rel _ _ (call k i l c a x) = never (no_child k c a)
  where
    no_child : (k : ℕ) (c : Child) → child_at [] k ≡ Some c → Never
    no_child zero c a = absurd cc
    no_child (suc k) c a = absurd cc

body_last : (rel : ℕ → ℕ → ℕ → Type 0) {o u : Occ} → Plus (Edge body rel) o u → u ≡ given 0 1
body_last rel (step e) = (body_edge rel _ _ e).1
body_last rel (more e w) = body_last rel w

abbrev body_rank : Bool → ℕ
body_rank false = 0
body_rank true = 1

body_up : (rel : ℕ → ℕ → ℕ → Type 0) (o u : Occ) → Edge body rel o u → body_rank o.result < body_rank u.result
body_up rel o u e =
    let (a, b) = body_edge rel o u e in
    subst (λ o. body_rank o.result < body_rank u.result) (sym a) (subst (λ (u : Occ). 0 < body_rank u.result) (sym b) (omega arith))

-- the rule that calls: only the first result of the child depends on its inherited value
first_only : (i j : ℕ) → IO own_result 1 i j → j ≡ 1
first_only i j (zero, x) = never x
first_only i j (suc h, (r, inl e, s, w)) = let z : 0 ≡ 1 = sym (ap (λ (r : Rule). r.sort) e) ∙ s in absurd (omega (arith, z))
first_only i j (suc h, (r, inr (inl e), s, w)) = ap (λ (o : Occ). o.number) (body_last (io own_result h) (subst (λ r. Plus (Edge r (io own_result h)) (inherited 0 i) (given 0 j)) e w))
first_only i j (suc h, (r, inr (inr m), s, w)) = never m

abbrev rank_at : ℕ → Bool → ℕ → ℕ
rank_at zero false n = 0
rank_at zero true n = 3
rank_at (suc k) false n = 1
rank_at (suc k) true zero = 0
rank_at (suc k) true (suc zero) = 2
rank_at (suc k) true (suc (suc n)) = 0

abbrev rank : Occ → ℕ
rank o = rank_at o.child o.result o.number

-- where a variable enters: the results of the child
calls_from : (v : ℕ) (o : Occ) → get None (entries calls) v ≡ Some o → o ≡ given 1 (suc v)
calls_from zero o e = sym (same_Some _ _ e)
calls_from (suc zero) o e = sym (same_Some _ _ e)
calls_from (suc (suc v)) o e = absurd cc

low : (v : ℕ) → rank (given 1 (suc v)) < 3
low zero = omega arith
low (suc v) = omega arith

calls_to : (v k : ℕ) (b : Bool) (n : ℕ) (t : Term) → term_at calls (record { child = k; result = b; number = n }) ≡ Some t → In v t → rank (given 1 (suc v)) < rank_at k b n
calls_to v zero true n t e i = low v
calls_to v zero false n t e i = absurd cc
calls_to v (suc zero) false zero t e i = absurd cc
calls_to v (suc zero) false (suc zero) t e i = subst (λ v. rank (given 1 (suc v)) < 1) (sym (subst (In v) (sym (same_Some _ _ e)) i)) (omega arith)
calls_to v (suc zero) false (suc (suc n)) t e i = absurd cc
calls_to v (suc (suc k)) false n t e i = absurd cc
calls_to v (suc k) true n t e i = absurd cc

the_child : (k : ℕ) (c : Child) → child_at calls.children k ≡ Some c → (k ≡ 1) × (c.sort ≡ 1)
the_child zero c e = absurd cc
the_child (suc zero) c e = (refl, sym (ap (λ (c : Child). c.sort) (same_Some _ _ e)))
the_child (suc (suc k)) c e = absurd cc

calls_up : (o u : Occ) → Edge calls (IO own_result) o u → rank o < rank u
calls_up o u (text v t a b x) = subst (λ o. rank o < rank u) (sym (calls_from v o a)) (calls_to v u.child u.result u.number t b x)
calls_up _ _ (call k i l c a x) =
    let (one, s) = the_child k c a in
    let first = first_only i l (subst (λ s. IO own_result s i l) s x) in
    subst (λ k. rank (inherited k i) < rank (given k l)) (sym one) (subst (λ l. 1 < rank (given 1 l)) (sym first) (omega arith))

no_circle : HasNoCircle own_result (IO own_result)
no_circle r (inl e) o w = no_round (Edge calls (IO own_result)) rank calls_up o (subst (λ r. Plus (Edge r (IO own_result)) o o) e w)
no_circle r (inr (inl e)) o w = no_round (Edge body (IO own_result)) (λ o. body_rank o.result) (body_up (IO own_result)) o (subst (λ r. Plus (Edge r (IO own_result)) o o) e w)
no_circle r (inr (inr m)) o w = never m

pub own_result_accepted : IsAccepted own_words own_result
own_result_accepted = (formed, no_circle)
