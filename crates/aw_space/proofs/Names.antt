-- The references that nodes inherited, one after the other, and that they are named.
use Rattle.std.proofs.Common.{◌≡◌, true, List, [], ◌∷◌, ◌++◌, refl}
use Rattle.std.proofs.lemmas.Bool.{and_parts, and_from}
use Rattle.aw_term.specs.Names.{Ref}
use Rattle.aw_store.specs.NamedRefs.{is_named, all_named}

pub all_named-append : (ns xs ys : List Ref) → all_named ns xs ≡ true → all_named ns ys ≡ true → all_named ns (xs ++ ys) ≡ true
all_named-append ns [] ys a b = b
all_named-append ns (x ∷ xs) ys a b = let (p, q) = and_parts (is_named ns x) _ a in and_from _ _ p (all_named-append ns xs ys q b)

pub all_named-left : (ns xs ys : List Ref) → all_named ns (xs ++ ys) ≡ true → all_named ns xs ≡ true
all_named-left ns [] ys a = refl
all_named-left ns (x ∷ xs) ys a = let (p, q) = and_parts (is_named ns x) _ a in and_from _ _ p (all_named-left ns xs ys q)

pub all_named-right : (ns xs ys : List Ref) → all_named ns (xs ++ ys) ≡ true → all_named ns ys ≡ true
all_named-right ns [] ys a = a
all_named-right ns (x ∷ xs) ys a = let (p, q) = and_parts (is_named ns x) _ a in all_named-right ns xs ys q
