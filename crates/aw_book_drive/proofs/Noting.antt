-- Numbers of messages that are noted.
use Rattle.std.specs.Prelude.{slice_get}
use Rattle.std.proofs.Common.{◌≡◌, ℕ, ◌+◌, ◌<◌, ◌≤◌, Bool, true, false, cond, List, [], ◌∷◌, ◌++◌, map, length, take, get_or, Option, Some, refl, sym, ap, ◌∙◌, subst, inl, inr, length-append, arith}
use Rattle.std.proofs.lemmas.Bool.{cases_lt}
use Rattle.std.proofs.lemmas.List.{take_more}
use Rattle.std.specs.HashMap.{HashMap, get}
use Rattle.aw_list.specs.Members.{Member}
use Rattle.aw_list.proofs.Members.{member_left, member_right, member_split}
use Rattle.aw_apply.specs.Messages.{Message}
use Rattle.aw_msg.specs.declared.message.Message as program
use Rattle.aw_name.specs.contracts.node.RefPartialEq.TheImpl as reference
use Rattle.aw_name.specs.SameRefs.{ref_same}
use Rattle.aw_msg.specs.MessageView.{message_of}
use Rattle.aw_term.specs.Names.{Ref, ref_eq}
use Rattle.aw_term.specs.Rules.{Grammar}
use Rattle.aw_term.proofs.RefTests.{ref_eq-true, ref_eq-self}
use Rattle.aw_book_drive.specs.declared.index.Index.{Index}
use Rattle.aw_book_drive.specs.Indexes.{about, noted, numbers_of, Notes, AreNoted, Covers, IsAt}
use Rattle.aw_book_drive.proofs.Fronts.{from-front, seen-at}
use Rattle.aw_book_drive.proofs.Places.{none-past}

-- an entry, found by the equality that is derived in the program
pub entry_derived : {S : Type 0} (m : HashMap Ref (List ℕ) S) (r : Ref) → get (reference.ghosts).eq m r ≡ get ref_eq m r
entry_derived m r = λ i. get (λ a b. ref_same a b i) m r

-- what `Notes` says, with that equality
abbrev pub NotesDerived : {S : Type 0} → HashMap Ref (List ℕ) S → HashMap Ref (List ℕ) S → Ref → ℕ → Type 0
NotesDerived m n k number = (q : Ref) → get (reference.ghosts).eq n q ≡ cond ((reference.ghosts).eq k q) (Some (noted (get (reference.ghosts).eq m k) ++ number ∷ [])) (get (reference.ghosts).eq m q)

noted-by : (b : Bool) (o mine all : Option (List ℕ)) (number : ℕ) → o ≡ cond b (Some (noted mine ++ number ∷ [])) all → (b ≡ true → mine ≡ all) → noted o ≡ cond b (noted all ++ number ∷ []) (noted all)
noted-by true o mine all number e same = ap noted e ∙ ap (λ z. noted z ++ number ∷ []) (same refl)
noted-by false o mine all number e same = ap noted e

pub notes_derived : {S : Type 0} (m n : HashMap Ref (List ℕ) S) (k : Ref) (number : ℕ) → NotesDerived m n k number → Notes m n k number
notes_derived m n k number notes q =
    noted-by (ref_eq k q) (get ref_eq n q) (get ref_eq m k) (get ref_eq m q) number
    (sym (entry_derived n q) ∙ (notes q ∙ (λ i. cond (ref_same k q i) (Some (noted (entry_derived m k i) ++ number ∷ [])) (entry_derived m q i))))
    (λ e. ap (get ref_eq m) (ref_eq-true k q e))

-- what was noted stays noted, and the number is
noted-after : {S : Type 0} (m n : HashMap Ref (List ℕ) S) (r : Ref) (k : ℕ) → Notes m n r k → (x : Ref) (j : ℕ) → Member j (numbers_of m x) → Member j (numbers_of n x)
noted-after m n r k notes x j i = go (ref_eq r x) (notes x)
  where
    go : (b : Bool) → numbers_of n x ≡ cond b (numbers_of m x ++ k ∷ []) (numbers_of m x) → Member j (numbers_of n x)
    go true e = subst (λ ns. Member j ns) (sym e) (member_left j (numbers_of m x) (k ∷ []) i)
    go false e = subst (λ ns. Member j ns) (sym e) i

noted-here : {S : Type 0} (m n : HashMap Ref (List ℕ) S) (r : Ref) (k : ℕ) → Notes m n r k → Member k (numbers_of n r)
noted-here m n r k notes =
    let e = notes r ∙ ap (λ b. cond b (numbers_of m r ++ k ∷ []) (numbers_of m r)) (ref_eq-self r) in
    subst (λ ns. Member k ns) (sym e) (member_right k (numbers_of m r) (k ∷ []) (inl refl))

-- one message more is noted
pub noted-more : {S : Type 0} (m n : HashMap Ref (List ℕ) S) (at : ℕ) (messages : List Message) (r : Ref) → Notes m n r at → ((x : Message) → slice_get messages at ≡ Some x → r ≡ about x) →
    AreNoted m at messages → AreNoted n (at + 1) messages
noted-more m n at messages r notes here all k x l e =
    elim (cases_lt k at) [
      | inl less ↦ noted-after m n r at notes (about x) k (all k x less e)
      | inr more ↦ (let p : k ≡ at = omega (arith, l, more) in
          let q = here x (ap (slice_get messages) (sym p) ∙ e) in
          subst (λ j. Member j (numbers_of n (about x))) (sym p) (subst (λ s. Member at (numbers_of n s)) q (noted-here m n r at notes)))
    ]

-- those that are noted are so where messages come behind them
pub noted-on : {S : Type 0} (m : HashMap Ref (List ℕ) S) (xs ys : List Message) → AreNoted m (length xs) xs → AreNoted m (length xs) (xs ++ ys)
noted-on m xs ys all k x l e = all k x l (sym (from-front xs ys k l) ∙ e)

-- the messages in front are noted where others come behind them
pub covers-front : (x : Index) (front more all : List Message) → all ≡ front ++ more → Covers x front → AreNoted x.numbers x.count all
covers-front x front more all e c =
    subst (λ (ms : List Message). AreNoted x.numbers x.count ms) (sym e) (subst (λ n. AreNoted x.numbers n (front ++ more)) (sym c.count) (noted-on x.numbers front more c.noted))

-- and no more are noted than there are
pub covers-few : (x : Index) (front more all : List Message) → all ≡ front ++ more → Covers x front → x.count ≤ length all
covers-few x front more all e c = let n = c.count in let m = length-append front more in let k = ap length e in omega (arith, n, m, k)

-- of none of some numbers it holds, nor of one more
pub none-more : (P : ℕ → Type 0) (xs : List ℕ) (i d : ℕ) → i < length xs → ((k : ℕ) → Member k (take i xs) → P k → ⊥) → (P (get_or xs i d) → ⊥) → (k : ℕ) → Member k (take (i + 1) xs) → P k → ⊥
none-more P xs i d l none here k m p =
    elim (member_split k (take i xs) (get_or xs i d ∷ []) (subst (λ (ys : List ℕ). Member k ys) (take_more xs i d l) m)) [
      | inl before ↦ none k before p
      | inr (inl same) ↦ here (subst P same p)
      | inr (inr bad) ↦ elim bad [ ]
    ]

-- a message that is noted is among the numbers that are found for what it is about
pub covers-find : (x : Index) (g : Grammar) (messages : List program.Message) (m : program.Message) (subject : Ref) (o : Option (List ℕ)) → Covers x (map (message_of g) messages) →
    subject ≡ about (message_of g m) → o ≡ get (reference.ghosts).eq x.numbers subject → (k : ℕ) → IsAt messages m k → Member k (noted o)
covers-find x g messages m subject o covers same found k at =
    let there = seen-at (message_of g) messages k m at in
    let within = none-past (map (message_of g) messages) k (message_of g m) there in
    let i = covers.noted k (message_of g m) within there in
    subst (λ (ns : List ℕ). Member k ns) (sym (ap noted (found ∙ (entry_derived x.numbers subject ∙ ap (get ref_eq x.numbers) same)))) i

-- where one entry was written, with one number more
pub notes_from : {S : Type 0} (m n : HashMap Ref (List ℕ) S) (k : Ref) (number : ℕ) (list : List ℕ) →
    ((q : Ref) → get (reference.ghosts).eq n q ≡ cond ((reference.ghosts).eq k q) (Some list) (get (reference.ghosts).eq m q)) → list ≡ numbers_of m k ++ number ∷ [] → Notes m n k number
notes_from m n k number list written is q =
    noted-by (ref_eq k q) (get ref_eq n q) (get ref_eq m k) (get ref_eq m q) number
    (sym (entry_derived n q) ∙ (written q ∙ (λ i. cond (ref_same k q i) (Some (is i)) (entry_derived m q i))))
    (λ e. ap (get ref_eq m) (ref_eq-true k q e))
