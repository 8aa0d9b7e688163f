-- Names that stay where only what is named is named again.
use Rattle.std.proofs.Common.{◌≡◌, ℕ, zero, suc, ◌<◌, true, List, [], ◌∷◌, ◌++◌, length, Some, refl, ap, arith, sym, subst, ◌∙◌, inl, inr}
use Rattle.std.specs.Prelude.{slice_get, ◌⊎◌}
use Rattle.std.proofs.lemmas.Bool.{and_parts, or_cases}
use Rattle.std.proofs.lemmas.List.{append-nil}
use Rattle.aw_list.proofs.Everyday.{or_left as or_first, or_right as or_later}
use Rattle.aw_term.specs.Names.{Ref}
use Rattle.aw_term.proofs.RefTests.{ref_eq-true}
use Rattle.aw_store.specs.Refs.{ref_eq}
use Rattle.aw_store.specs.Equations.{Map}
use Rattle.aw_store.specs.NamedRefs.{is_named, all_named, has_names, refs_in, all_refs_in, IsNamedOnce, Grows, NamesOnly}
use Rattle.aw_store.proofs.NameLemmas.{is_named-at, named_part}
use Rattle.aw_store.proofs.SlotLemmas.{slot-grown}

place : (ns : List Ref) (r : Ref) → is_named ns r ≡ true → (i : ℕ) × (i < length ns) × (slice_get ns i ≡ Some r)
place [] r e = absurd cc
place (n ∷ ns) r e = elim (or_cases (ref_eq r n) (is_named ns r) e) [
  | inl a ↦ (zero, omega arith, ap Some (sym (ref_eq-true r n a)))
  | inr b ↦ (let (i, l, f) = place ns r b in (suc i, omega (arith, l), f))
]

behind : (ns : List Ref) (m : Ref) (ms : List Ref) → slice_get (ns ++ m ∷ ms) (length ns) ≡ Some m
behind [] m ms = refl
behind (n ∷ ns) m ms = behind ns m ms

no_more : (ns more rs : List Ref) → ((r : Ref) → is_named rs r ≡ true → is_named ns r ≡ true) → NamesOnly ns (ns ++ more) rs → IsNamedOnce (ns ++ more) → ns ++ more ≡ ns
no_more ns [] rs among only once = append-nil ns
no_more ns (m ∷ ms) rs among only once =
    let named : is_named ns m ≡ true = elim (only m (is_named-at (ns ++ m ∷ ms) (length ns) m (behind ns m ms))) [ inl a ↦ a | inr b ↦ among m b ] in
    let (i, l, e) = place ns m named in
    let z = once i (length ns) m (slot-grown ns (ns ++ m ∷ ms) i m (m ∷ ms, refl) e) (behind ns m ms) in
    absurd (omega (arith, l, z))

-- names stay that grow by nothing but what is named, since none is named twice
pub names_stay : (ns ms rs : List Ref) → ((r : Ref) → is_named rs r ≡ true → is_named ns r ≡ true) → Grows ns ms → NamesOnly ns ms rs → IsNamedOnce ms → ms ≡ ns
names_stay ns ms rs among (more, e) only once = e ∙ no_more ns more rs among (subst (λ x. NamesOnly ns x rs) e only) (subst IsNamedOnce e once)

pub among_named : (ns rs : List Ref) → all_named ns rs ≡ true → (r : Ref) → is_named rs r ≡ true → is_named ns r ≡ true
among_named ns rs h r b = let (k, l, f) = place rs r b in named_part ns rs k r h f

split : (xs ys : List Ref) (r : Ref) → is_named (xs ++ ys) r ≡ true → (is_named xs r ≡ true) ⊎ (is_named ys r ≡ true)
split [] ys r e = inr e
split (x ∷ xs) ys r e = elim (or_cases (ref_eq r x) (is_named (xs ++ ys) r) e) [
  | inl a ↦ inl (or_first (ref_eq r x) (is_named xs r) a)
  | inr b ↦ elim (split xs ys r b) [ inl c ↦ inl (or_later (ref_eq r x) (is_named xs r) c) | inr c ↦ inr c ]
]

pub among_all : (ns : List Ref) (k : Map) → has_names ns k ≡ true → (r : Ref) → is_named (all_refs_in k) r ≡ true → is_named ns r ≡ true
among_all ns [] h r b = absurd cc
among_all ns (e ∷ k) h r b =
    let (p, q) = and_parts _ _ h in
    elim (split (refs_in e) (all_refs_in k) r b) [ inl a ↦ among_named ns (refs_in e) p r a | inr a ↦ among_all ns k q r a ]
