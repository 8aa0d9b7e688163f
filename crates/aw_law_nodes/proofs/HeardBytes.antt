-- What is heard in bytes.
use Rattle.std.proofs.Common.{◌≡◌, ℕ, List, [], ◌∷◌, ◌++◌, map, Option, Some, None, refl, sym, ap, ◌∙◌, append_assoc}
use Rattle.aw_list.proofs.Members.{never}
use Rattle.aw_term.specs.Trees.{Never}
use Rattle.aw_law_nodes.specs.Nodes.{Response}
use Rattle.aw_law_nodes.specs.Couriers.{Heard, hear, IsSpelling, flat, IsPrefix}
use Rattle.aw_law_nodes.proofs.ListParts.{cons-inj}

-- what is heard in bytes
pub cancel : {A : Type 0} (xs ys zs : List A) → xs ++ ys ≡ xs ++ zs → ys ≡ zs
cancel [] ys zs e = e
cancel (x ∷ xs) ys zs e = cancel xs ys zs (cons-inj e).1

pub bytes_are_heard : (spelled : Response → List ℕ) (read : List ℕ → Option Heard) → IsSpelling spelled read →
    (bs : List (List ℕ)) (hs : List Heard) (xs : List Response) → map read bs ≡ map Some hs → IsPrefix (flat bs) (flat (map spelled xs)) → IsPrefix hs (map hear xs)
bytes_are_heard spelled read S bs [] xs e p = (map hear xs, refl)
bytes_are_heard spelled read S [] (h ∷ hs) xs e p = absurd cc
bytes_are_heard spelled read S (b ∷ bs) (h ∷ hs) [] e (zs, q) = never (no-bytes b refl q)
  where
    some-not : {A : Type 0} {a : A} → None ≡ Some a → Never
    some-not e = absurd cc

    no-bytes : (c : List ℕ) → b ≡ c → [] ≡ (c ++ flat bs) ++ zs → Never
    no-bytes [] d q = some-not (sym S.some_ ∙ (ap read (sym d) ∙ (cons-inj e).0))
    no-bytes (x ∷ c) d q = absurd cc
bytes_are_heard spelled read S (b ∷ bs) (h ∷ hs) (x ∷ xs) e (zs, q) =
    let z = S.one b (flat bs ++ zs) (flat (map spelled xs)) h x (cons-inj e).0 (sym (append_assoc b (flat bs) zs) ∙ sym q) in
    let r : flat (map spelled xs) ≡ flat bs ++ zs = cancel (spelled x) (flat (map spelled xs)) (flat bs ++ zs) (q ∙ (sym (sym (append_assoc b (flat bs) zs)) ∙ ap (λ c. c ++ (flat bs ++ zs)) z.0)) in
    let t = bytes_are_heard spelled read S bs hs xs (cons-inj e).1 (zs, r) in
    (t.0, ap (λ y. y ∷ map hear xs) (sym z.1) ∙ ap (λ ys. h ∷ ys) t.1)
