-- What is noted of references, after one entry was written.
use Rattle.std.proofs.Common.{◌≡◌, ◌≢◌, ℕ, ◌<◌, ◌≤◌, Bool, true, false, cond, Option, None, Some, is_some, ap, sym, ◌∙◌, refl, subst, nat_eq, get_or, eq-eqb, w64}
use Rattle.std.specs.Prelude.{◌||◌, ◌&&◌, ◌+◌, ◌*◌, ◌%◌, ◌^◌, List, [], ◌∷◌, ◌++◌, All, length, take, Result, Ok, Err, OnOk, OnErr, bit_or}
use Rattle.std.specs.HashMap.{HashMap, get}
use Rattle.std.specs.Int.Bits.{or_zero_l, or_zero_r}
use Rattle.std.proofs.lemmas.Bool.{eqb-true, both_ways}
use Rattle.std.proofs.lemmas.List.{take_all, take_more}
use Rattle.std.proofs.lemmas.List.Elements.{All-push}
use Rattle.std.proofs.lemmas.Nat.Bits.{bit_at_set_same, bit_at_set_other}
use Rattle.aw_name.specs.contracts.node.RefPartialEq.TheImpl as reference
use Rattle.aw_term.specs.Names.{Ref, ref_eq}
use Rattle.aw_name.specs.SameRefs.{ref_same}
use Rattle.aw_term.proofs.RefTests.{ref_eq-true, ref_eq-self}
use Rattle.aw_subs.specs.declared.subs.Sub.{Sub}
use Rattle.aw_subs.specs.Entries.{entry_of, entry_or, asked_in, watchers_in, has_bit, amended, Writes}

-- an entry, found by the equality that is derived in the program
pub entry_derived : {S : Type 0} (m : HashMap Ref Sub S) (r : Ref) → get (reference.ghosts).eq m r ≡ entry_of m r
entry_derived m r = λ i. get (λ a b. ref_same a b i) m r

-- what `Writes` says, with that equality
abbrev pub WritesDerived : {S : Type 0} → HashMap Ref Sub S → HashMap Ref Sub S → Ref → Sub → Type 0
WritesDerived m n k w = (q : Ref) → get (reference.ghosts).eq n q ≡ cond ((reference.ghosts).eq k q) (Some w) (get (reference.ghosts).eq m q)

pub writes_derived : {S : Type 0} (m n : HashMap Ref Sub S) (k : Ref) (w : Sub) → WritesDerived m n k w → Writes m n k w
writes_derived m n k w writes q =
    sym (entry_derived n q) ∙ writes q ∙ (λ i. cond (ref_same k q i) (Some w) (entry_derived m q i))

-- an entry to which no watchers are added has the same, and one that is not asked for now stands as it did
pub same_watchers : (s : Sub) (asked : Bool) → watchers_in (Some s) ≡ watchers_in (Some (amended s asked 0))
same_watchers s asked = sym (or_zero_r s.watchers)

pub same_asked : (s : Sub) (bits : ℕ) → asked_in (Some s) ≡ asked_in (Some (amended s false bits))
same_asked s bits = cases s.asked
  where
    cases : (b : Bool) → b ≡ (b || false)
    cases true = refl
    cases false = refl

pub or_asked : (o : Option Sub) → asked_in o ≡ asked_in (Some (entry_or o))
or_asked None = refl
or_asked (Some s) = refl

pub or_watchers : (o : Option Sub) → watchers_in o ≡ watchers_in (Some (entry_or o))
or_watchers None = refl
or_watchers (Some s) = refl

-- what is written after entries that are the same
pub writes_after : {S : Type 0} (m n p : HashMap Ref Sub S) (k : Ref) (w : Sub) → ((q : Ref) → entry_of n q ≡ entry_of m q) → Writes n p k w → Writes m p k w
writes_after m n p k w same writes q = writes q ∙ ap (λ o. cond (ref_eq k q) (Some w) o) (same q)

ready_cases : (b : Bool) (w : Sub) (o p : Option Sub) → p ≡ cond b (Some w) o → is_some o ≡ true → is_some p ≡ true
ready_cases true w o p e h = ap is_some e
ready_cases false w o p e h = ap is_some e ∙ h

kept_cases : {A : Type 0} (f : Option Sub → A) (b : Bool) (w : Sub) (o p : Option Sub) → p ≡ cond b (Some w) o →
    (b ≡ true → f o ≡ f (Some w)) → f p ≡ f o
kept_cases f true w o p e same = ap f e ∙ sym (same refl)
kept_cases f false w o p e same = ap f e

bits_cases : (b : Bool) (role i : ℕ) (w : Sub) (o p : Option Sub) → p ≡ cond b (Some w) o →
    (b ≡ true → has_bit w.watchers i ≡ (nat_eq role i || has_bit (watchers_in o) i)) →
    has_bit (watchers_in p) i ≡ ((b && nat_eq role i) || has_bit (watchers_in o) i)
bits_cases true role i w o p e f = ap (λ x. has_bit (watchers_in x) i) e ∙ f refl
bits_cases false role i w o p e f = ap (λ x. has_bit (watchers_in x) i) e

module _ {S : Type 0} (m n : HashMap Ref Sub S) (k : Ref) (w : Sub) (writes : Writes m n k w) where
  -- the written reference has an entry
  pub ready_self : is_some (entry_of n k) ≡ true
  ready_self = ap is_some (writes k ∙ ap (λ b. cond b (Some w) (entry_of m k)) (ref_eq-self k))

  -- no entry goes away
  pub still_ready : (q : Ref) → is_some (entry_of m q) ≡ true → is_some (entry_of n q) ≡ true
  still_ready q h = ready_cases (ref_eq k q) w (entry_of m q) (entry_of n q) (writes q) h

  -- what the written entry does not change
  pub kept_written : {A : Type 0} (f : Option Sub → A) → f (entry_of m k) ≡ f (Some w) → (q : Ref) → f (entry_of n q) ≡ f (entry_of m q)
  kept_written f same q =
      kept_cases f (ref_eq k q) w (entry_of m q) (entry_of n q) (writes q) (λ t. ap (λ r. f (entry_of m r)) (sym (ref_eq-true k q t)) ∙ same)

  -- the written entry has one more bit
  pub bits_written : (role : ℕ) (o : Option Sub) → entry_of m k ≡ o → ((j : ℕ) → has_bit w.watchers j ≡ (nat_eq role j || has_bit (watchers_in o) j)) →
      (q : Ref) (i : ℕ) → has_bit (watchers_in (entry_of n q)) i ≡ ((ref_eq k q && nat_eq role i) || has_bit (watchers_in (entry_of m q)) i)
  bits_written role o here bits q i =
      bits_cases (ref_eq k q) role i w (entry_of m q) (entry_of n q) (writes q)
      (λ t. bits i ∙ ap (λ x. nat_eq role i || has_bit (watchers_in x) i) (sym here ∙ ap (entry_of m) (ref_eq-true k q t)))

-- a bit that is set, beside the others
pub bit_beside : (bits k i : ℕ) → k < 64 → has_bit (bit_or bits (1 * 2 ^ k % 2 ^ 64)) i ≡ (nat_eq k i || has_bit bits i)
bit_beside bits k i within = cases (nat_eq k i) refl
  where
    cases : (b : Bool) → nat_eq k i ≡ b → has_bit (bit_or bits (1 * 2 ^ k % 2 ^ 64)) i ≡ (b || has_bit bits i)
    cases true e =
        ap (λ j. has_bit (bit_or bits (1 * 2 ^ k % 2 ^ 64)) j) (sym (eqb-true k i e)) ∙ ap (λ x. nat_eq x 1) (bit_at_set_same w64 bits k within)
    cases false e =
        let differ : i ≢ k = λ s. both_ways (nat_eq k i) e (ap (nat_eq k) s ∙ eq-eqb k k refl) in
        ap (λ x. nat_eq x 1) (bit_at_set_other w64 bits k within i differ)

-- a bit that is set alone
pub bit_alone : (k i : ℕ) → k < 64 → has_bit (1 * 2 ^ k % 2 ^ 64) i ≡ (nat_eq k i || has_bit 0 i)
bit_alone k i within = ap (λ x. has_bit x i) (sym (or_zero_l (1 * 2 ^ k % 2 ^ 64))) ∙ bit_beside 0 k i within

pub either_way : {A E : Type 0} {P Q R : Type 0} (r : Result A E) → OnOk r P → OnErr r Q → (P → R) → (Q → R) → R
either_way (Ok a) p q f g = f p
either_way (Err e) p q f g = g q

-- one more item that is taken, and all of them
pub all_taken : {A : Type 0} (P : A → Type 0) (xs : List A) (i : ℕ) (x : A) → i < length xs → x ≡ get_or xs i x →
    All P (take i xs) → P x → All P (take (i + 1) xs)
all_taken P xs i x l e all here = subst (All P) (sym (take_more xs i x l ∙ ap (λ y. take i xs ++ y ∷ []) (sym e))) (All-push P (take i xs) x all here)

pub all_of_take : {A : Type 0} (P : A → Type 0) (xs : List A) (i : ℕ) → length xs ≤ i → All P (take i xs) → All P xs
all_of_take P xs i l all = subst (All P) (take_all i xs l) all
