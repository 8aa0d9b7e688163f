-- Members of lists, and references in order.
use Rattle.std.specs.Prelude.{filter, ◌||◌, ◌⊎◌, ◌++◌}
use Rattle.std.proofs.Common.{Bool, List, [], ap, cond, false, inl, inr, length, map, refl, subst, sym, true, ◌∙◌, ◌∷◌, ◌≡◌}
use Rattle.std.proofs.lemmas.List.{length-map}
use Rattle.aw_list.specs.Members.{Member}
use Rattle.aw_list.proofs.Members.{never}
use Rattle.aw_apply.proofs.Numbering.{later_append}
use Rattle.aw_term.specs.Names.{Ref, ref_eq, ref_lt}
use Rattle.aw_term.specs.Trees.{Never}
use Rattle.aw_term.specs.WellFormed.{Each, Later}
use Rattle.aw_term.proofs.Eaches.{each_map}
use Rattle.aw_term.proofs.RefTests.{ref_eq-self, ref_eq-true}
use Rattle.aw_term.proofs.RefOrder.{ref-no, ref-trans, ref-tri}
use Rattle.aw_accept.proofs.Fitting.{each_member}
use Rattle.aw_law_sites.proofs.Lists.{each_of}
use Rattle.aw_law_sites.specs.InOrder.{has_ref, in_order, insert_ref}

pub each_by : {A : Type 0} (P Q : A → Type 0) → ((x : A) → P x → Q x) → (xs : List A) → Each P xs → Each Q xs
each_by P Q f xs each = each_map P Q xs f each

pub length-mapped : {A B : Type 0} (f : A → B) (xs : List A) → length (map f xs) ≡ length xs
length-mapped f xs = length-map xs f

filter_cases : {A : Type 0} (b : Bool) (p : A → Bool) (x y : A) (zs : List A) → p x ≡ true → (x ≡ y) ⊎ Member x zs → p y ≡ b → Member x (cond b (y ∷ zs) zs)
filter_cases true p x y zs e m f = m
filter_cases false p x y zs e (inl q) f = let z = ap p q in absurd cc
filter_cases false p x y zs e (inr m) f = m

pub Member-filter : {A : Type 0} (p : A → Bool) (x : A) (xs : List A) → Member x xs → p x ≡ true → Member x (filter p xs)
Member-filter p x [] m e = never m
Member-filter p x (y ∷ ys) (inl q) e = filter_cases (p y) p x y (filter p ys) e (inl q) refl
Member-filter p x (y ∷ ys) (inr m) e = filter_cases (p y) p x y (filter p ys) e (inr (Member-filter p x ys m e)) refl

ordered_cases : (b d : Bool) (x r s : Ref) (ss zs : List Ref) → ref_eq r s ≡ d → (x ≡ r) ⊎ Member x (s ∷ ss) → ((x ≡ r) ⊎ Member x ss → Member x zs) →
    Member x (cond b (r ∷ s ∷ ss) (cond d (s ∷ ss) (s ∷ zs)))
ordered_cases true d x r s ss zs e m f = m
ordered_cases false true x r s ss zs e (inl a) f = inl (a ∙ ref_eq-true r s e)
ordered_cases false true x r s ss zs e (inr m) f = m
ordered_cases false false x r s ss zs e (inl a) f = inr (f (inl a))
ordered_cases false false x r s ss zs e (inr (inl a)) f = inl a
ordered_cases false false x r s ss zs e (inr (inr m)) f = inr (f (inr m))

Member-insert_ref : (x r : Ref) (ss : List Ref) → (x ≡ r) ⊎ Member x ss → Member x (insert_ref r ss)
Member-insert_ref x r [] m = m
Member-insert_ref x r (s ∷ ss) m = ordered_cases (ref_lt r s) (ref_eq r s) x r s ss (insert_ref r ss) refl m (Member-insert_ref x r ss)

pub Member-in_order : (x : Ref) (rs : List Ref) → Member x rs → Member x (in_order rs)
Member-in_order x [] m = m
Member-in_order x (r ∷ rs) (inl e) = Member-insert_ref x r (in_order rs) (inl e)
Member-in_order x (r ∷ rs) (inr m) = Member-insert_ref x r (in_order rs) (inr (Member-in_order x rs m))

has_cases : (b : Bool) (r s : Ref) (ss : List Ref) → ref_eq r s ≡ b → (b || has_ref r ss) ≡ true → (has_ref r ss ≡ true → Member r ss) → Member r (s ∷ ss)
has_cases true r s ss f e h = inl (ref_eq-true r s f)
has_cases false r s ss f e h = inr (h e)

pub has_ref-true : (r : Ref) (ss : List Ref) → has_ref r ss ≡ true → Member r ss
has_ref-true r [] e = absurd cc
has_ref-true r (s ∷ ss) e = has_cases (ref_eq r s) r s ss refl e (has_ref-true r ss)

filtered_cases : {A : Type 0} (b : Bool) (p : A → Bool) (x y : A) (zs : List A) → p y ≡ b → (Member x zs → Member x zs × (p x ≡ true)) →
    Member x (cond b (y ∷ zs) zs) → ((x ≡ y) ⊎ Member x zs) × (p x ≡ true)
filtered_cases true p x y zs e f (inl q) = (inl q, ap p q ∙ e)
filtered_cases true p x y zs e f (inr m) = (inr m, (f m).1)
filtered_cases false p x y zs e f m = (inr m, (f m).1)

pub Member-filtered : {A : Type 0} (p : A → Bool) (x : A) (xs : List A) → Member x (filter p xs) → Member x xs × (p x ≡ true)
Member-filtered p x [] m = never m
Member-filtered p x (y ∷ ys) m =
    let (a, b) = filtered_cases (p y) p x y (filter p ys) refl (λ n. (n, (Member-filtered p x ys n).1)) m in
    (elim a [ inl e ↦ inl e | inr n ↦ inr (Member-filtered p x ys n).0 ], b)

out_of_cases : (b d : Bool) (x r s : Ref) (ss zs : List Ref) → (Member x zs → (x ≡ r) ⊎ Member x ss) → Member x (cond b (r ∷ s ∷ ss) (cond d (s ∷ ss) (s ∷ zs))) → (x ≡ r) ⊎ Member x (s ∷ ss)
out_of_cases true d x r s ss zs f m = m
out_of_cases false true x r s ss zs f m = inr m
out_of_cases false false x r s ss zs f (inl e) = inr (inl e)
out_of_cases false false x r s ss zs f (inr m) = elim (f m) [ inl e ↦ inl e | inr n ↦ inr (inr n) ]

Member-of_insert : (x r : Ref) (ss : List Ref) → Member x (insert_ref r ss) → (x ≡ r) ⊎ Member x ss
Member-of_insert x r [] m = m
Member-of_insert x r (s ∷ ss) m = out_of_cases (ref_lt r s) (ref_eq r s) x r s ss (insert_ref r ss) (Member-of_insert x r ss) m

pub Member-of_order : (x : Ref) (rs : List Ref) → Member x (in_order rs) → Member x rs
Member-of_order x [] m = m
Member-of_order x (r ∷ rs) m = elim (Member-of_insert x r (in_order rs) m) [ inl e ↦ inl e | inr n ↦ inr (Member-of_order x rs n) ]

abbrev Lower : Ref → Ref → Type 0
Lower a b = ref_lt a b ≡ true

sorted_cases : (b d : Bool) (r s : Ref) (ss zs : List Ref) → ref_lt r s ≡ b → ref_eq r s ≡ d → (r ≡ s → ref_eq r s ≡ true) → Later Lower (s ∷ ss) →
    Later Lower zs → ((z : Ref) → Member z zs → (z ≡ r) ⊎ Member z ss) → Later Lower (cond b (r ∷ s ∷ ss) (cond d (s ∷ ss) (s ∷ zs)))
sorted_cases true d r s ss zs e f q o oz h = ((e, each_by (Lower s) (Lower r) (λ x y. ref-trans r s x e y) ss o.0), o)
sorted_cases false true r s ss zs e f q o oz h = o
sorted_cases false false r s ss zs e f q o oz h =
    let after : ref_lt s r ≡ true = elim (ref-tri r s) [ inl x ↦ absurd cc | inr x ↦ elim x [ inl y ↦ (let z = q y in absurd cc) | inr y ↦ y ] ] in
    (each_of (Lower s) zs (λ z m. elim (h z m) [ inl a ↦ subst (λ z. Lower s z) (sym a) after | inr n ↦ each_member (Lower s) ss z o.0 n ]), oz)

eq_ref : (r s : Ref) → r ≡ s → ref_eq r s ≡ true
eq_ref r s p = subst (λ s. ref_eq r s ≡ true) p (ref_eq-self r)

insert-sorted : (r : Ref) (ss : List Ref) → Later Lower ss → Later Lower (insert_ref r ss)
insert-sorted r [] o = (tt, tt)
insert-sorted r (s ∷ ss) o = sorted_cases (ref_lt r s) (ref_eq r s) r s ss (insert_ref r ss) refl refl (eq_ref r s) o (insert-sorted r ss o.1) (λ z m. Member-of_insert z r ss m)

sorted : (rs : List Ref) → Later Lower (in_order rs)
sorted [] = tt
sorted (r ∷ rs) = insert-sorted r (in_order rs) (sorted rs)

pub Later-map : {A : Type 0} (R T : A → A → Type 0) → ((a b : A) → R a b → T a b) → (xs : List A) → Later R xs → Later T xs
Later-map R T f [] l = tt
Later-map R T f (x ∷ xs) l = (each_by (R x) (T x) (f x) xs l.0, Later-map R T f xs l.1)

filter_later : {A : Type 0} (b : Bool) (R : A → A → Type 0) (x : A) (zs : List A) → Each (R x) zs → Later R zs → Later R (cond b (x ∷ zs) zs)
filter_later true R x zs a l = (a, l)
filter_later false R x zs a l = l

pub Later-filter : {A : Type 0} (R : A → A → Type 0) (p : A → Bool) (xs : List A) → Later R xs → Later R (filter p xs)
Later-filter R p [] l = tt
Later-filter R p (x ∷ xs) l = filter_later (p x) R x (filter p xs) (each_of (R x) (filter p xs) (λ y m. each_member (R x) xs y l.0 (Member-filtered p y xs m).0)) (Later-filter R p xs l.1)

pub Later-mapped : {A B : Type 0} (R : A → A → Type 0) (T : B → B → Type 0) (f : A → B) → ((a b : A) → R a b → T (f a) (f b)) → (xs : List A) → Later R xs → Later T (map f xs)
Later-mapped R T f h [] l = tt
Later-mapped R T f h (x ∷ xs) l = (each xs l.0, Later-mapped R T f h xs l.1)
  where
    each : (ys : List _) → Each (R x) ys → Each (T (f x)) (map f ys)
    each [] e = tt
    each (y ∷ ys) e = (h x y e.0, each ys e.1)

-- each once
pub once : (rs : List Ref) → Later (λ a b. a ≡ b → Never) (in_order rs)
once rs = Later-map Lower (λ a b. a ≡ b → Never) (λ a b e p. ref-no a (subst (λ b. Lower a b) (sym p) e)) (in_order rs) (sorted rs)

pub later_both : {A : Type 0} (R : A → A → Type 0) (xs ys : List A) → Later R xs → Later R ys → ((x y : A) → Member x xs → Member y ys → R x y) → Later R (xs ++ ys)
later_both R xs ys a b f = later_append R xs ys a b (each_of (λ x. Each (R x) ys) xs (λ x m. each_of (R x) ys (λ y n. f x y m n)))
