-- Bytes that come or go in pieces.
use Rattle.std.proofs.Common.{◌≡◌, ℕ, ◌+◌, List, ◌++◌, None, Some, refl, ap, append_assoc, sym, ◌∙◌, take, drop}
use Rattle.std.proofs.lemmas.List.{take-append-drop, drop-drop}
use Rattle.std.proofs.Math.Seq.{take-add}
use Rattle.aw_out.specs.Edge.{Gets, Gives}
use Rattle.std.specs.declared.option.Option.{Option}
use Rattle.std.specs.Io.KnownBytes.{prepend_known, append_known}

-- giving the one and then the other is giving both
pub prepend_known-append : (xs ys : List ℕ) (known : Option (List ℕ)) → prepend_known (xs ++ ys) known ≡ prepend_known xs (prepend_known ys known)
prepend_known-append xs ys None = refl
prepend_known-append xs ys (Some zs) = ap Some (append_assoc xs ys zs)

-- some bytes came, and then some more
pub Gives-more : (a b c : Option (List ℕ)) (xs ys : List ℕ) → Gives a b xs → Gives b c ys → Gives a c (xs ++ ys)
Gives-more a b c xs ys first next = rw prepend_known-append (cc (first, next))

-- getting the one and then the other is getting both
pub append_known-append : (known : Option (List ℕ)) (xs ys : List ℕ) → append_known known (xs ++ ys) ≡ append_known (append_known known xs) ys
append_known-append None xs ys = refl
append_known-append (Some zs) xs ys = ap Some (sym (append_assoc zs xs ys))

-- getting the front of some bytes, and then more of them
pub Gets-more : (a b c : Option (List ℕ)) (bytes : List ℕ) (i n : ℕ) → Gets a b (take i bytes) → Gets b c (take n (drop i bytes)) → Gets a c (take (i + n) bytes)
Gets-more a b c bytes i n first next =
    simp (take-add i n bytes) (next ∙ ap (λ o. append_known o (take n (drop i bytes))) first ∙ sym (append_known-append a (take i bytes) (take n (drop i bytes))))

-- what is left is its front and the rest behind it
pub front-and-rest : (xs : List ℕ) (at n : ℕ) → drop at xs ≡ take n (drop at xs) ++ drop (at + n) xs
front-and-rest xs at n = rw (← drop-drop n at xs) (sym (take-append-drop n (drop at xs)))
