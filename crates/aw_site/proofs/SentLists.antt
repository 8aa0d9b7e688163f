-- Lists of messages that grow by one item after the other.
use Rattle.std.proofs.Common.{◌≡◌, ◌≢◌, ℕ, zero, suc, ◌+◌, ◌<◌, ◌≤◌, Bool, true, false, cond, List, [], ◌∷◌, ◌++◌, map, nat_eq, eq-eqb, refl, ap, sym, ◌∙◌, append_assoc, w64, arith}
use Rattle.std.specs.Int.{bit_at, bit_not, trailing_zeros}
use Rattle.std.specs.Prelude.{◌*◌, ◌%◌, ◌^◌, bit_and}
use Rattle.std.proofs.lemmas.Bool.{eqb-true, both_ways}
use Rattle.std.proofs.Math.Path.{fun_ext}
use Rattle.std.proofs.lemmas.List.{append-nil, map-append}
use Rattle.std.proofs.lemmas.Nat.{and_le_l}
use Rattle.std.proofs.lemmas.Nat.Bits.{bit_at-zero, bit_at-trailing_zeros, bit_at_clear_same, bit_at_clear_other}
use Rattle.aw_term.specs.Names.{Ref}
use Rattle.aw_term.specs.Rules.{Grammar}
use Rattle.aw_store.specs.Equations.{Equation}
use Rattle.aw_apply.specs.Made.{Call}
use Rattle.aw_apply.specs.Messages.{Message}
use Rattle.aw_law_sites.specs.Homes.{home}
use Rattle.aw_law_sites.specs.Sites.{Site}
use Rattle.aw_law_sites.specs.Telling.{watchers_from, tell, tells, call_out, calls_out}
use Rattle.aw_subs.specs.declared.subs.Subs.{Subs}
use Rattle.aw_subs.specs.Entries.{has_bit, watchers}
use Rattle.aw_site_repeat.specs.Holders.{ShowsWatchers}

-- one item further, where what a list makes is what its first makes before what the rest makes
pub pushed_more : {A M : Type 0} (F : List A → List M) → ((x : A) (xs : List A) → F (x ∷ xs) ≡ F (x ∷ []) ++ F xs) → (before after whole : List M) (rest xs : List A) (x : A)
    → rest ≡ x ∷ xs → before ++ F rest ≡ whole → after ≡ before ++ F (x ∷ []) → after ++ F xs ≡ whole
pushed_more F split before after whole rest xs x r b a =
    ap (λ ys. ys ++ F xs) a
    ∙ append_assoc before (F (x ∷ [])) (F xs)
    ∙ ap (λ ys. before ++ ys) (sym (split x xs) ∙ ap F (sym r))
    ∙ b

-- the last item
pub pushed_all : {A M : Type 0} (F : List A → List M) → F [] ≡ [] → (after whole : List M) (rest : List A) → rest ≡ [] → after ++ F rest ≡ whole → after ≡ whole
pushed_all F none after whole rest r e = sym (append-nil after) ∙ ap (λ ys. after ++ ys) (sym (ap F r ∙ none)) ∙ e

split_cases : {M : Type 0} (b : Bool) (x : M) (xs : List M) → cond b xs (x ∷ xs) ≡ cond b [] (x ∷ []) ++ xs
split_cases true x xs = refl
split_cases false x xs = refl

pub calls_split : (g : Grammar) (s : Site) (c : Call) (cs : List Call) → calls_out g s (c ∷ cs) ≡ calls_out g s (c ∷ []) ++ calls_out g s cs
calls_split g s c cs = split_cases (nat_eq (home g c.node) s.role) (call_out g s c) (calls_out g s cs)

-- ---- the roles that watch, by their bits

-- the same places
same_places : (p q : ℕ → Bool) (n i : ℕ) → ((j : ℕ) → i ≤ j → j < i + n → p j ≡ q j) → watchers_from n i p ≡ watchers_from n i q
same_places p q zero i same = refl
same_places p q (suc n) i same =
    let here : p i ≡ q i = same i (omega arith) (omega arith) in
    let rest : watchers_from n (suc i) p ≡ watchers_from n (suc i) q = same_places p q n (suc i) (λ j a b. same j (omega (arith, a)) (omega (arith, b))) in
    λ k. cond (here k) (i ∷ rest k) (rest k)

-- no place
no_places : (p : ℕ → Bool) (n i : ℕ) → ((j : ℕ) → p j ≡ false) → watchers_from n i p ≡ []
no_places p zero i none = refl
no_places p (suc n) i none = ap (λ b. cond b (i ∷ watchers_from n (suc i) p) (watchers_from n (suc i) p)) (none i) ∙ no_places p n (suc i) none

-- the first place, and then those of a test that holds at the others alone
first_place : (p q : ℕ → Bool) (k n i : ℕ) → i ≤ k → k < i + n → p k ≡ true → q k ≡ false → ((j : ℕ) → j < k → p j ≡ false) → ((j : ℕ) → j < i + n → j ≢ k → q j ≡ p j)
    → watchers_from n i p ≡ k ∷ watchers_from n i q
first_place p q k zero i l m here gone before same = absurd (omega (arith, l, m))
first_place p q k (suc n) i l m here gone before same =
    cases (λ less. first_place p q k n (suc i) (omega (arith, less)) (omega (arith, m)) here gone before (λ j b o. same j (omega (arith, b)) o)) (nat_eq i k) refl
  where
    cases : (i < k → watchers_from n (suc i) p ≡ k ∷ watchers_from n (suc i) q) → (b : Bool) → nat_eq i k ≡ b → watchers_from (suc n) i p ≡ k ∷ watchers_from (suc n) i q
    cases next true e =
        let at : i ≡ k = eqb-true i k e in
        let later : watchers_from n (suc i) p ≡ watchers_from n (suc i) q = same_places p q n (suc i) (λ j a b. sym (same j (omega (arith, b)) (λ s. absurd (omega (arith, a, at, s))))) in
        ap (λ b. cond b (i ∷ watchers_from n (suc i) p) (watchers_from n (suc i) p)) (ap p at ∙ here)
        ∙ (λ x. at x ∷ later x)
        ∙ ap (λ b. k ∷ cond b (i ∷ watchers_from n (suc i) q) (watchers_from n (suc i) q)) (sym (ap q at ∙ gone))
    cases next false e =
        let other : i ≢ k = λ s. both_ways (nat_eq i k) e (ap (nat_eq i) (sym s) ∙ eq-eqb i i refl) in
        let less : i < k = omega (arith, l, other) in
        let off : p i ≡ false = before i less in
        let still : q i ≡ false = same i (omega arith) other ∙ off in
        ap (λ b. cond b (i ∷ watchers_from n (suc i) p) (watchers_from n (suc i) p)) off
        ∙ next less
        ∙ ap (λ b. k ∷ cond b (i ∷ watchers_from n (suc i) q) (watchers_from n (suc i) q)) (sym still)

-- these roles, by their bits
abbrev pub roles_of : ℕ → List ℕ
roles_of roles = watchers_from 64 0 (has_bit roles)

-- those whose bit is 1 watch
pub watchers_are : (subs : Subs) (s : Site) (r : Ref) (roles : ℕ) → roles ≡ watchers subs.subs r → ShowsWatchers subs s.watches → roles_of roles ≡ watchers_from 64 0 (s.watches r)
watchers_are subs s r roles e watch =
    let same : has_bit roles ≡ s.watches r = fun_ext (λ role. ap (λ b. has_bit b role) e ∙ sym (watch r role)) in
    ap (watchers_from 64 0) same

-- where no bit is 1
pub no_roles : roles_of 0 ≡ []
no_roles = no_places (has_bit 0) 64 0 (λ j. ap (λ n. nat_eq n 1) (bit_at-zero j))

-- the first role is taken away: what is left is less, and the roles are the first one and what is left
module _ (roles : ℕ) (some : 0 < roles) (small : roles < 2 ^ 64) where
  abbrev first : ℕ
  first = trailing_zeros w64 roles

  abbrev left : ℕ
  left = bit_and roles (bit_not w64 (1 * 2 ^ first % 2 ^ 64))

  gone : bit_at left first ≡ 0
  gone = bit_at_clear_same w64 roles first (bit_at-trailing_zeros w64 roles some small).0

  pub left_less : left < roles
  left_less = cases (nat_eq left roles) refl
    where
      cases : (b : Bool) → nat_eq left roles ≡ b → left < roles
      cases true e = absurd (let both : bit_at left first ≡ bit_at roles first = ap (λ x. bit_at x first) (eqb-true left roles e) in let set =
          (bit_at-trailing_zeros w64 roles some small).1 in omega (arith, both, set, gone))
      cases false e =
          let other : left ≢ roles = λ s. both_ways (nat_eq left roles) e (ap (nat_eq left) (sym s) ∙ eq-eqb left left refl) in
          omega (arith, other, and_le_l roles (bit_not w64 (1 * 2 ^ first % 2 ^ 64)))

  pub first_role : roles_of roles ≡ first ∷ roles_of left
  first_role =
      let lowest = bit_at-trailing_zeros w64 roles some small in
      first_place (has_bit roles) (has_bit left) first 64 0 (omega arith) lowest.0 (ap (λ n. nat_eq n 1) lowest.1) (ap (λ n. nat_eq n 1) gone)
      (λ j l. ap (λ n. nat_eq n 1) (lowest.2 j l))
      (λ j l other. ap (λ n. nat_eq n 1) (bit_at_clear_other w64 roles first lowest.0 j l other))

-- the loop over the roles that watch
pub told_next : (tell : ℕ → Message) (before after whole : List Message) (k : ℕ) (is js : List ℕ) → js ≡ k ∷ is → after ≡ before ++ tell k ∷ [] →
    before ++ map tell js ≡ whole → after ++ map tell is ≡ whole
told_next tell before after whole k is js e a b =
    ap (λ ys. ys ++ map tell is) a
    ∙ append_assoc before (tell k ∷ []) (map tell is)
    ∙ ap (λ ks. before ++ map tell ks) (sym e)
    ∙ b

-- all of them were told
pub told_all : (tell : ℕ → Message) (sent whole : List Message) (rest : ℕ) → rest ≡ 0 → sent ++ map tell (roles_of rest) ≡ whole → sent ≡ whole
told_all tell sent whole rest e b = sym (append-nil sent) ∙ ap (λ is. sent ++ map tell is) (sym (ap roles_of e ∙ no_roles)) ∙ b

one_more : {M : Type 0} (xs ys : List M) → xs ++ ys ≡ (xs ++ []) ++ ys
one_more xs zs = ap (λ ys. ys ++ zs) (sym (append-nil xs))

pub tells_split : (g : Grammar) (s : Site) (e : Equation) (es : List Equation) → tells g s (e ∷ es) ≡ tells g s (e ∷ []) ++ tells g s es
tells_split g s e es = one_more (map (tell g s e) (watchers_from 64 0 (s.watches e.left))) (tells g s es)

pub tells_one : (g : Grammar) (s : Site) (e : Equation) (before after : List Message) → after ≡ before ++ map (tell g s e)
    (watchers_from 64 0 (s.watches e.left)) → after ≡ before ++ tells g s (e ∷ [])
tells_one g s e before after p = p ∙ ap (λ ys. before ++ ys) (sym (append-nil (map (tell g s e) (watchers_from 64 0 (s.watches e.left)))))

pub push_map : {A M : Type 0} (f : A → M) (xs ys : List A) (m : A) (z : M) → ys ≡ xs ++ m ∷ [] → f m ≡ z → map f ys ≡ map f xs ++ z ∷ []
push_map f xs ys m z e q = ap (map f) e ∙ map-append f xs (m ∷ []) ∙ ap (λ y. map f xs ++ y ∷ []) q
