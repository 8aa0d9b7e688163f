-- Two lists with the same members, each once, differ in order alone.
use Rattle.std.specs.Prelude.{IsPermutation}
use Rattle.std.proofs.Common.{◌≡◌, List, [], ◌∷◌, ◌++◌, refl, sym, subst, inl, inr}
use Rattle.std.proofs.lemmas.List.Sorted.{IsPermutation-refl, IsPermutation-cons, IsPermutation-middle, IsPermutation-sym, IsPermutation-trans}
use Rattle.aw_list.specs.Members.{Member}
use Rattle.aw_list.proofs.Members.{never, member_left, member_right, member_split}
use Rattle.aw_term.specs.Trees.{Never}
use Rattle.aw_term.specs.WellFormed.{Each, Later}
use Rattle.aw_term.proofs.Eaches.{each_append}
use Rattle.aw_accept.proofs.Fitting.{each_member}

module _ {A : Type 0} where
  abbrev Differs : A → A → Type 0
  Differs x y = x ≡ y → Never

  -- each stands there once
  abbrev pub AreOnce : List A → Type 0
  AreOnce xs = Later Differs xs

  -- where a member stands
  record IsSplit (x : A) (xs : List A) : Type 0 where
    front : List A
    back : List A
    is : xs ≡ front ++ x ∷ back

  split-at : (x : A) (xs : List A) → Member x xs → IsSplit x xs
  split-at x [] m = never m
  split-at x (y ∷ ys) (inl e) = record { front = []; back = ys; is = λ i. sym e i ∷ ys }
  split-at x (y ∷ ys) (inr m) = let S = split-at x ys m in let p = S.is in record { front = y ∷ S.front; back = S.back; is = λ i. y ∷ p i }

  each-front : (P : A → Type 0) (xs ys : List A) → Each P (xs ++ ys) → Each P xs
  each-front P [] ys e = tt
  each-front P (x ∷ xs) ys e = (e.0, each-front P xs ys e.1)

  each-back : (P : A → Type 0) (xs ys : List A) → Each P (xs ++ ys) → Each P ys
  each-back P [] ys e = e
  each-back P (x ∷ xs) ys e = each-back P xs ys e.1

  -- without one of them
  once-without : (xs : List A) (x : A) (ys : List A) → AreOnce (xs ++ x ∷ ys) → AreOnce (xs ++ ys)
  once-without [] x ys o = o.1
  once-without (z ∷ zs) x ys o = (each_append (Differs z) zs ys (each-front (Differs z) zs (x ∷ ys) o.0) (each-back (Differs z) zs (x ∷ ys) o.0).1, once-without zs x ys o.1)

  -- it stands nowhere else
  only-there : (xs : List A) (x : A) (ys : List A) → AreOnce (xs ++ x ∷ ys) → Member x (xs ++ ys) → Never
  only-there [] x ys o m = each_member (Differs x) ys x o.0 m refl
  only-there (z ∷ zs) x ys o (inl e) = each_member (Differs z) (zs ++ x ∷ ys) x o.0 (member_right x zs (x ∷ ys) (inl refl)) (sym e)
  only-there (z ∷ zs) x ys o (inr m) = only-there zs x ys o.1 m

  skip-one : (xs : List A) (x : A) (ys : List A) (z : A) → Member z (xs ++ x ∷ ys) → (z ≡ x → Never) → Member z (xs ++ ys)
  skip-one xs x ys z m n = elim (member_split z xs (x ∷ ys) m) [ inl a ↦ member_left z xs ys a | inr a ↦ elim a [ inl e ↦ never (n e) | inr b ↦ member_right z xs ys b ] ]

  keep-one : (xs : List A) (x : A) (ys : List A) (z : A) → Member z (xs ++ ys) → Member z (xs ++ x ∷ ys)
  keep-one xs x ys z m = elim (member_split z xs ys m) [ inl a ↦ member_left z xs (x ∷ ys) a | inr a ↦ member_right z xs (x ∷ ys) (inr a) ]

  none-left : (ys : List A) → ((z : A) → Member z ys → Never) → [] ≡ ys
  none-left [] f = refl
  none-left (y ∷ ys) f = never (f y (inl refl))

  pub same_members : (xs ys : List A) → AreOnce xs → AreOnce ys → ((z : A) → Member z xs → Member z ys) → ((z : A) → Member z ys → Member z xs) → IsPermutation xs ys
  same_members [] ys o q f h = subst (IsPermutation []) (none-left ys h) (IsPermutation-refl [])
  same_members (x ∷ xs) ys o q f h =
      let S = split-at x ys (f x (inl refl)) in
      let q' : AreOnce (S.front ++ x ∷ S.back) = subst AreOnce S.is q in
      let rest = same_members xs (S.front ++ S.back) o.1 (once-without S.front x S.back q')
      (λ z m. skip-one S.front x S.back z (subst (Member z) S.is (f z (inr m))) (λ e. each_member (Differs x) xs z o.0 m (sym e)))
      (λ z m. elim (h z (subst (Member z) (sym S.is) (keep-one S.front x S.back z m))) [
        | inl e ↦ never (only-there S.front x S.back q' (subst (λ z. Member z (S.front ++ S.back)) e m))
        | inr i ↦ i
      ]) in
      subst (IsPermutation (x ∷ xs)) (sym S.is)
      (IsPermutation-trans (x ∷ xs) (x ∷ (S.front ++ S.back)) (S.front ++ x ∷ S.back) (IsPermutation-cons x xs (S.front ++ S.back) rest)
      (IsPermutation-sym (S.front ++ x ∷ S.back) (x ∷ (S.front ++ S.back)) (IsPermutation-middle S.front x S.back)))
