-- How far journals fit is unique, and no order goes further.
use Rattle.std.specs.Prelude.{slice_get, nat_eq, take, drop}
use Rattle.std.proofs.Common.{◌≡◌, ℕ, zero, suc, ◌-◌, ◌<◌, ◌≤◌, Bool, true, false, cond, List, [], ◌∷◌, ◌++◌, map, length, Some, refl, sym, ap, ◌∙◌}
use Rattle.std.proofs.Common.{subst, inl, inr, append_assoc, append-nil, arith, length-append, eq-eqb, eqb-true, le_of_eq}
use Rattle.std.proofs.lemmas.Bool.{cases_lt}
use Rattle.std.proofs.lemmas.List.{take-append-drop}
use Rattle.aw_list.proofs.Members.{never}
use Rattle.aw_term.specs.Rules.{Grammar, get}
use Rattle.aw_typed.specs.Types.{Types}
use Rattle.aw_law_sites.specs.SiteEvents.{SiteEvent}
use Rattle.aw_law_sites.specs.Worlds.{empty_world, Move, world_after}
use Rattle.aw_law_worlds.specs.Laws.{SiteIsFold}
use Rattle.aw_law_worlds.proofs.Settling.{run_both}
use Rattle.aw_law_nodes.proofs.Mail.{Given}
use Rattle.aw_law_journals.specs.Journals.{Entry, of_role, journal_at, IsJoint, firsts, IsReach, Fits, AllFit}
use Rattle.aw_law_journals.specs.Laws.{SitesAreJournals, ReachIsGreatest, ReachIsUnique, JoinIsExact}
use Rattle.aw_law_journals.proofs.Coming.{of-role-cons, Came, came-none, came-as, came-more, came-site, fits-there}

-- so many first events of a role's journal
pub journal-firsts : (ns : List ℕ) (js : List (List SiteEvent)) (r : ℕ) → journal_at (firsts ns js) r ≡ take (get 0 ns r) (journal_at js r)
journal-firsts ns [] r = sym (take-none (get 0 ns r))
  where
    take-none : (n : ℕ) → take {A = SiteEvent} n [] ≡ []
    take-none zero = refl
    take-none (suc n) = refl
journal-firsts [] (j ∷ js) zero = refl
journal-firsts [] (j ∷ js) (suc r) = journal-firsts [] js r
journal-firsts (n ∷ ns) (j ∷ js) zero = refl
journal-firsts (n ∷ ns) (j ∷ js) (suc r) = journal-firsts ns js r

-- the events behind a front
pub take-front : {A : Type 0} (front rest : List A) (n : ℕ) → length front ≤ n → take n (front ++ rest) ≡ front ++ take (n - length front) rest
take-front [] rest n l = let z : n ≡ n - 0 = omega arith in ap (λ n. take n rest) z
take-front (x ∷ front) rest zero l = absurd (omega arith)
take-front (x ∷ front) rest (suc n) l = let z : n - length front ≡ suc n - suc (length front) = omega arith in ap (◌∷◌ x) (take-front front rest n (omega arith) ∙ ap (λ k. front ++ take k rest) z)

pub get-front : {A : Type 0} (front : List A) (x : A) (rest : List A) (n : ℕ) → length front ≡ n → slice_get (front ++ x ∷ rest) n ≡ Some x
get-front [] x rest zero l = refl
get-front [] x rest (suc n) l = absurd (omega arith)
get-front (y ∷ front) x rest zero l = absurd (omega arith)
get-front (y ∷ front) x rest (suc n) l = get-front front x rest n (omega arith)

pub take-whole : {A : Type 0} (xs : List A) (n : ℕ) → length xs ≤ n → take n xs ≡ xs
take-whole [] zero l = refl
take-whole [] (suc n) l = refl
take-whole (x ∷ xs) zero l = absurd (omega arith)
take-whole (x ∷ xs) (suc n) l = ap (◌∷◌ x) (take-whole xs n (omega arith))

pub length-first : {A : Type 0} (xs : List A) (n : ℕ) → n ≤ length xs → length (take n xs) ≡ n
length-first xs zero l = refl
length-first [] (suc n) l = absurd (omega arith)
length-first (x ∷ xs) (suc n) l = ap suc (length-first xs n (omega arith))

-- a role has what is its own
pub of-role-self : (x : Entry) (xs : List Entry) → of_role x.role (x ∷ xs) ≡ x.event ∷ of_role x.role xs
of-role-self x xs = ap (λ b. cond b (x.event ∷ of_role x.role xs) (of_role x.role xs)) (eq-eqb x.role x.role refl)

module _ (t : Types) (g : Grammar) where
  -- the events of a joint order, by role
  pub joint-came : (js : List (List SiteEvent)) (es : List Move) → IsJoint t g js es → Came t g (journal_at js) es
  joint-came js es j = j

  pub firsts-came : (js : List (List SiteEvent)) (ns : List ℕ) (es : List Move) → IsJoint t g (firsts ns js) es → Came t g (λ r. take (get 0 ns r) (journal_at js r)) es
  firsts-came js ns es j = came-as t g (journal_at (firsts ns js)) (λ r. take (get 0 ns r) (journal_at js r)) es (journal-firsts ns js) j

  module _ (given : Given g) (fold : SiteIsFold g) where
    pub sites_are_journals : SitesAreJournals t g
    sites_are_journals js es j r l = came-site t g given fold (journal_at js) es j r l

    -- one more event of this role, or none
    one-more : (a r n : ℕ) (x : SiteEvent) (done : List SiteEvent) (b : Bool) → nat_eq a r ≡ b → length done ≤ n → (a ≡ r → length done < n) → length (done ++ cond b (x ∷ []) []) ≤ n
    one-more a r n x done true e l f = let z = length-append done (x ∷ []) in let l' = f (eqb-true a r e) in omega (arith, z, l')
    one-more a r n x done false e l f = subst (λ xs. length xs ≤ n) (sym (append-nil done)) l

    module _ (js : List (List SiteEvent)) (ns : List ℕ) (es : List Move) (R : IsReach t g js ns es) where
      -- an event behind those that came, at a role that had as many as are reached, would fit there
      reached : (done : ℕ → List SiteEvent) (fs : List Move) → Came t g done fs → ((r : ℕ) → length (done r) ≤ get 0 ns r) → ((r : ℕ) → (rest : List SiteEvent) × (done r ++ rest ≡ journal_at js r))
          → (a : ℕ) (x : SiteEvent) (later : List SiteEvent) → done a ++ x ∷ later ≡ journal_at js a → (f : Move) → Fits t g (world_after g true fs) a x f → length (done a) < get 0 ns a
      reached done fs c l front a x later p f fit =
          elim (cases_lt (length (done a)) (get 0 ns a)) [
            | inl less ↦ less
            | inr more ↦ (let l' = l a in
                let n : length (done a) ≡ get 0 ns a = omega (arith, l', more) in
                let gone : ℕ → List SiteEvent = λ r. take (get 0 ns r) (journal_at js r) in
                let parts : (r : ℕ) → (rest : List SiteEvent) × (gone r ≡ done r ++ rest) =
                λ r. let (rest, q) = front r in (take (get 0 ns r - length (done r)) rest, ap (take (get 0 ns r)) (sym q) ∙ take-front (done r) rest (get 0 ns r) (l r)) in
                let here : done a ≡ gone a =
                sym (ap (take (get 0 ns a)) (sym p) ∙ (take-front (done a) (x ∷ later) (get 0 ns a) (l a) ∙ none (done a) (x ∷ later) (get 0 ns a - length (done a)) (omega (arith, n)))) in
                let (d, fit') = fits-there t g given fold done gone fs es c (firsts-came js ns es R.joint) parts a x f here fit in
                never (R.ended a x d (ap (λ j. slice_get j (get 0 ns a)) (sym p) ∙ get-front (done a) x later (get 0 ns a) n) fit'))
          ]
        where
          none : (xs ys : List SiteEvent) (n : ℕ) → n ≡ 0 → xs ++ take n ys ≡ xs
          none xs ys n e = ap (λ n. xs ++ take n ys) e ∙ append-nil xs

      -- along another order nothing goes further
      within : (done rest : ℕ → List SiteEvent) (fs : List Move) → Came t g done fs → ((r : ℕ) → length (done r) ≤ get 0 ns r)
          → (ys : List Entry) (ds : List Move) → AllFit t g (world_after g true fs) ys ds → ((r : ℕ) → done r ++ (of_role r ys ++ rest r) ≡ journal_at js r)
          → (r : ℕ) → length (done r ++ of_role r ys) ≤ get 0 ns r
      within done rest fs c l [] [] f p r = subst (λ xs. length xs ≤ get 0 ns r) (sym (append-nil (done r))) (l r)
      within done rest fs c l (y ∷ ys) (d ∷ ds) f p r =
          let less = reached done fs c l (λ r. (of_role r (y ∷ ys) ++ rest r, p r)) y.role y.event (of_role y.role ys ++ rest y.role)
          (ap (λ xs. done y.role ++ (xs ++ rest y.role)) (sym (of-role-self y ys)) ∙ p y.role) d f.0 in
          let done' : ℕ → List SiteEvent = λ r. done r ++ of_role r (y ∷ []) in
          let more : (r : ℕ) → length (done' r) ≤ get 0 ns r = λ r. one-more y.role r (get 0 ns r) y.event (done r) (nat_eq y.role r) refl (l r)
          (λ e. subst (λ r. length (done r) < get 0 ns r) e less) in
          let parts : (r : ℕ) → done' r ++ (of_role r ys ++ rest r) ≡ journal_at js r =
          λ r. append_assoc (done r) (of_role r (y ∷ [])) (of_role r ys ++ rest r)
          ∙ (ap (λ xs. done r ++ xs) (sym (append_assoc (of_role r (y ∷ [])) (of_role r ys) (rest r)) ∙ ap (λ xs. xs ++ rest r) (sym (of-role-cons r y ys))) ∙ p r) in
          let next = within done' rest (fs ++ d ∷ []) (came-more t g done fs y d c f.0) more ys ds
          (subst (λ w. AllFit t g w ys ds) (sym (run_both g (empty_world g true) fs (d ∷ []))) f.1) parts r in
          subst (λ xs. length xs ≤ get 0 ns r) (append_assoc (done r) (of_role r (y ∷ [])) (of_role r ys) ∙ ap (λ xs. done r ++ xs) (sym (of-role-cons r y ys))) next
      within done rest fs c l [] (d ∷ ds) f p r = never f
      within done rest fs c l (y ∷ ys) [] f p r = never f

      pub greatest : (ms : List ℕ) (fs : List Move) → IsJoint t g (firsts ms js) fs → (r : ℕ) → length (take (get 0 ms r) (journal_at js r)) ≤ get 0 ns r
      greatest ms fs j r =
          let c = firsts-came js ms fs j in
          let z = within (λ r. []) (λ r. drop (get 0 ms r) (journal_at js r)) [] (came-none t g) (λ r. omega arith) c.0 fs c.2
          (λ r. ap (λ xs. xs ++ drop (get 0 ms r) (journal_at js r)) (c.1 r) ∙ take-append-drop (get 0 ms r) (journal_at js r)) r in
          subst (λ xs. length xs ≤ get 0 ns r) (c.1 r) z

    pub reach_is_greatest : ReachIsGreatest t g
    reach_is_greatest js ns ms es fs R j r = greatest js ns es R ms fs j r

    at-most : (js : List (List SiteEvent)) (ns ms : List ℕ) (es fs : List Move) → IsReach t g js ns es → IsReach t g js ms fs → (r : ℕ) → get 0 ms r ≤ get 0 ns r
    at-most js ns ms es fs R S r = let z = greatest js ns es R ms fs S.joint r in let q = length-first (journal_at js r) (get 0 ms r) (S.within r) in omega (arith, z, q)

    pub reach_is_unique : ReachIsUnique t g
    reach_is_unique js ns ms es fs R S r = let a = at-most js ns ms es fs R S r in let b = at-most js ms ns fs es S R r in omega (arith, a, b)

    lengths-at : (js : List (List SiteEvent)) (r : ℕ) → get 0 (map length js) r ≡ length (journal_at js r)
    lengths-at [] r = refl
    lengths-at (j ∷ js) zero = refl
    lengths-at (j ∷ js) (suc r) = lengths-at js r

    pub join_is_exact : JoinIsExact t g
    join_is_exact = record {
      found = λ js ns es R whole.
          let c = firsts-came js ns es R.joint in
          came-as t g (λ r. take (get 0 ns r) (journal_at js r)) (journal_at js) es (λ r. take-whole (journal_at js r) (get 0 ns r) (le_of_eq (sym (whole r)))) c;
      complete = λ js ns es fs R j r.
          let n = lengths-at js r in
          let all : IsJoint t g (firsts (map length js) js) fs =
          came-as t g (journal_at js) (journal_at (firsts (map length js) js)) fs
          (λ r. sym (journal-firsts (map length js) js r ∙ take-whole (journal_at js r) (get 0 (map length js) r) (le_of_eq (sym (lengths-at js r))))) j in
          let z = greatest js ns es R (map length js) fs all r in
          let q = length-first (journal_at js r) (get 0 (map length js) r) (le_of_eq n) in
          let within = R.within r in
          omega (arith, n, z, q, within);
    }
