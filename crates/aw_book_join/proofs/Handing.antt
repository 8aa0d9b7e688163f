-- Bytes that are handed on in pieces.
use Rattle.std.proofs.Common.{◌≡◌, ℕ, ◌+◌, ◌≤◌, List, [], ◌++◌, length, take, Option, None, Some, refl, sym, ap, ◌∙◌, subst, append_assoc, append-nil, length-append, le_refl, arith}
use Rattle.std.proofs.Math.Seq.{take-append-add}
use Rattle.std.proofs.lemmas.List.{take-append-le, take_all}
use Rattle.aw_out.specs.Edge.{Gets, GetsPrefix}
use Rattle.aw_out.proofs.Known.{append_known-append}
use Rattle.std.specs.Io.KnownBytes.{append_known}
use Rattle.aw_book_join.specs.Handing.{HandsOn}

pub gets-nothing : (a : Option (List ℕ)) → Gets a a []
gets-nothing None = refl
gets-nothing (Some xs) = ap Some (sym (append-nil xs))

pub gets-both : (a b c : Option (List ℕ)) (xs ys : List ℕ) → Gets a b xs → Gets b c ys → Gets a c (xs ++ ys)
gets-both a b c xs ys first next = next ∙ (ap (λ (o : Option (List ℕ)). append_known o ys) first ∙ sym (append_known-append a xs ys))

pub no-prefix : (a : Option (List ℕ)) (text : List ℕ) → GetsPrefix a a text
no-prefix a text = (0, omega arith, gets-nothing a)

-- all of it is a prefix
pub whole-prefix : (a b : Option (List ℕ)) (text : List ℕ) → Gets a b text → GetsPrefix a b text
whole-prefix a b text h = (length text, le_refl (length text), subst (λ (t : List ℕ). Gets a b t) (sym (take_all (length text) text (le_refl (length text)))) h)

-- a prefix of a longer text
pub longer-prefix : (a b : Option (List ℕ)) (xs ys : List ℕ) → GetsPrefix a b xs → GetsPrefix a b (xs ++ ys)
longer-prefix a b xs ys p =
    let long : p.0 ≤ length (xs ++ ys) = simp length-append (omega (arith, p.1)) in
    (p.0, long, subst (λ (t : List ℕ). Gets a b t) (sym (take-append-le p.0 xs ys p.1)) p.2)

-- some bytes, and a prefix of what comes behind them
pub behind-prefix : (a b c : Option (List ℕ)) (xs ys : List ℕ) → Gets a b xs → GetsPrefix b c ys → GetsPrefix a c (xs ++ ys)
behind-prefix a b c xs ys first p =
    let long : length xs + p.0 ≤ length (xs ++ ys) = simp length-append (omega (arith, p.1)) in
    (length xs + p.0, long, rw take-append-add (gets-both a b c xs (take p.0 ys) first p.2))

-- ---- what is left

pub hands-nothing : (a : Option (List ℕ)) (left : List ℕ) → HandsOn a a left left
hands-nothing a left = record { written = []; gets = gets-nothing a; whole = refl }

-- the same by another name of the text
pub hands-as : (a b : Option (List ℕ)) (left text other : List ℕ) → text ≡ other → HandsOn a b left text → HandsOn a b left other
hands-as a b left text other e h = subst (λ (t : List ℕ). HandsOn a b left t) e h

pub prefix-as : (a b : Option (List ℕ)) (text other : List ℕ) → text ≡ other → GetsPrefix a b text → GetsPrefix a b other
prefix-as a b text other e h = subst (λ (t : List ℕ). GetsPrefix a b t) e h

-- what was left, with more behind it, was handed on
pub hands-more : (a b c : Option (List ℕ)) (left rest text more : List ℕ) → HandsOn a b left text → HandsOn b c rest (left ++ more) → HandsOn a c rest (text ++ more)
hands-more a b c left rest text more h k = record {
  written = h.written ++ k.written;
  gets = gets-both a b c h.written k.written h.gets k.gets;
  whole = ap (λ (t : List ℕ). t ++ more) h.whole ∙ (append_assoc h.written left more ∙ (ap (λ (t : List ℕ). h.written ++ t) k.whole ∙ sym (append_assoc h.written k.written rest)));
}

-- of what was left, with more behind it, a prefix was written
pub stops-within : (a b c : Option (List ℕ)) (left text more : List ℕ) → HandsOn a b left text → GetsPrefix b c (left ++ more) → GetsPrefix a c (text ++ more)
stops-within a b c left text more h p =
    prefix-as a c (h.written ++ (left ++ more)) (text ++ more) (sym (append_assoc h.written left more) ∙ ap (λ (t : List ℕ). t ++ more) (sym h.whole))
    (behind-prefix a b c h.written (left ++ more) h.gets p)

-- what was left was written
pub ends-with : (a b c : Option (List ℕ)) (left text : List ℕ) → HandsOn a b left text → Gets b c left → Gets a c text
ends-with a b c left text h k = subst (λ (t : List ℕ). Gets a c t) (sym h.whole) (gets-both a b c h.written left h.gets k)

-- or a prefix of it
pub ends-within : (a b c : Option (List ℕ)) (left text : List ℕ) → HandsOn a b left text → GetsPrefix b c left → GetsPrefix a c text
ends-within a b c left text h p = prefix-as a c (h.written ++ left) text (sym h.whole) (behind-prefix a b c h.written left h.gets p)
