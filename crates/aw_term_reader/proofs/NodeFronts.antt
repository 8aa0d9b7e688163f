-- A node name at the front of bytes: all its bytes are bytes of a word, the first is a letter, and one of them stands in no name.
use Rattle.std.proofs.Common.{◌≡◌, ℕ, ◌<◌, ◌-◌, refl, sym, ◌∙◌, ap, Bool, true, false, cond, ◌==◌, ◌&&◌, List, [], ◌∷◌, ◌++◌, length, arith, Option}
use Rattle.std.proofs.Common.{Some, None, IfSome, is_some, option_map, option_and_then, nat_le, subst, inl, inr}
use Rattle.std.proofs.lemmas.Bool.{and_parts}
use Rattle.std.proofs.lemmas.Bool.Decides.{nat_tests, eqb_tells}
use Rattle.std.proofs.lemmas.List.Folds.{list_all-append}
use Rattle.std.proofs.lemmas.List.Splits.{join_with_byte-slice_split}
use Rattle.std.specs.List.{list_all, onto_first, join_with_byte}
use Rattle.aw_spelling.specs.Spelling.{is_letter, is_digit, is_name, is_name_byte, number_of, cut, with_front, start_of, child_of, step_of, steps_of, parts, name_from, node_name}
use Rattle.aw_spelling.proofs.NodeNames.{plain_is_no_node}
use Rattle.aw_lex.specs.declared.token.TokenKind.TheVariants as kinds
use Rattle.aw_lex.specs.declared.front.Front.TheVariants as front
use Rattle.aw_lex.specs.Tokens.{is_word_byte, kind_of_word, front_of}
use Rattle.aw_lex.proofs.Words.{joined_kind, name_in_word as name_is_word}
use Rattle.aw_term_reader.proofs.Lexing.{Ends, all_pass, digit_is_word, if_true, letter_begins, number_digits, word_front}

-- what holds, where an option that came of others is there
both_some : {A B C : Type 0} (f : A → B → C) (o : Option A) (q : Option B) → is_some (option_and_then (λ x. option_map (f x) q) o) ≡ true → (is_some o ≡ true) × (is_some q ≡ true)
both_some f None q h = cc
both_some f (Some x) None h = cc
both_some f (Some x) (Some y) h = (refl, refl)

tested : {A B : Type 0} (f : A → B) (t : Bool) (o : Option A) → is_some (cond t (option_map f o) None) ≡ true → (t ≡ true) × (is_some o ≡ true)
tested f true None h = cc
tested f true (Some x) h = (refl, refl)
tested f false o h = cc

-- The bytes of names, numbers and children are bytes of a word.
name_word : (n : List ℕ) → is_name n ≡ true → list_all is_word_byte n ≡ true
name_word [] h = cc
name_word (b ∷ n) h =
    let short = and_parts (nat_le (length (b ∷ n)) 64) (is_letter b && list_all is_name_byte n) h in
    let each = and_parts (is_letter b) (list_all is_name_byte n) short.1 in
    ap (λ t. t && list_all is_word_byte n) (letter_begins b each.0).word ∙ all_pass is_name_byte is_word_byte name_is_word n each.1

number_word : (ds : List ℕ) → is_some (number_of ds) ≡ true → list_all is_word_byte ds ≡ true
number_word ds h = all_pass is_digit is_word_byte digit_is_word ds (number_digits ds h)

child_digit : (d : ℕ) → (nat_le 49 d && nat_le d 56) ≡ true → is_digit d ≡ true
child_digit d h = grind (arith, nat_tests)

child_word : (ds : List ℕ) → is_some (child_of ds) ≡ true → list_all is_word_byte ds ≡ true
child_word [] h = cc
child_word (d ∷ []) h = ap (λ t. t && true) (digit_is_word d (child_digit d (if_true (nat_le 49 d && nat_le d 56) (Some (d - 48)) h)))
child_word (d ∷ e ∷ ds) h = cc

-- where both halves pass a test that the mark passes too, the bytes that were cut do
abbrev PassWith : (ℕ → Bool) → List ℕ → List ℕ × List ℕ → Type 0
PassWith p bs halves = list_all p halves.0 ≡ true → list_all p halves.1 ≡ true → list_all p bs ≡ true

one_before : (p : ℕ → Bool) (b : ℕ) (bs : List ℕ) (o : Option (List ℕ × List ℕ)) → IfSome o (PassWith p bs) → IfSome (option_map (with_front b) o) (PassWith p (b ∷ bs))
one_before p b bs None h = tt
one_before p b bs (Some halves) h =
    λ e f. let each = and_parts (p b) (list_all p halves.0) e in ap (λ t. t && list_all p bs) each.0 ∙ h each.1 f

cut_passes : (p : ℕ → Bool) (mark : ℕ) (bs : List ℕ) → p mark ≡ true → IfSome (cut mark bs) (PassWith p bs)
cut_passes p mark [] h = tt
cut_passes p mark (b ∷ bs) h =
    elim (eqb_tells b mark) [
      | inl q ↦ subst (λ t. IfSome (cond t (Some ([], bs)) (option_map (with_front b) (cut mark bs))) (PassWith p (b ∷ bs))) (sym q.0)
          (λ e f. ap (λ x. p x && list_all p bs) q.1 ∙ ap (λ t. t && list_all p bs) h ∙ f)
      | inr q ↦ subst (λ t. IfSome (cond t (Some ([], bs)) (option_map (with_front b) (cut mark bs))) (PassWith p (b ∷ bs))) (sym q.0)
          (one_before p b bs (cut mark bs) (cut_passes p mark bs h))
    ]

-- a start, and a step
start_word : (part : List ℕ) → is_some (start_of part) ≡ true → list_all is_word_byte part ≡ true
start_word part h = by_halves (cut 35 part) (cut_passes is_word_byte 35 part refl) h
  where
    by_halves : (o : Option (List ℕ × List ℕ)) → IfSome o (PassWith is_word_byte part)
        → is_some (option_and_then (λ halves. cond (is_name halves.0) (option_map (λ n. let x : List ℕ × ℕ = (halves.0, n) in x) (number_of halves.1))
        None) o) ≡ true → list_all is_word_byte part ≡ true
    by_halves None f e = cc
    by_halves (Some halves) f e = let both = tested (λ n. let x : List ℕ × ℕ = (halves.0, n) in x) (is_name halves.0) (number_of halves.1) e in
        f (name_word halves.0 both.0) (number_word halves.1 both.1)

step_word : (part : List ℕ) → is_some (step_of part) ≡ true → list_all is_word_byte part ≡ true
step_word part h = by_halves (cut 46 part) (cut_passes is_word_byte 46 part refl) h
  where
    by_halves : (o : Option (List ℕ × List ℕ)) → IfSome o (PassWith is_word_byte part)
        → is_some (option_and_then (λ halves. cond (is_name halves.0) (option_map (λ n. let x : List ℕ × ℕ = (halves.0, n) in x) (child_of halves.1))
        None) o) ≡ true → list_all is_word_byte part ≡ true
    by_halves None f e = cc
    by_halves (Some halves) f e = let both = tested (λ n. let x : List ℕ × ℕ = (halves.0, n) in x) (is_name halves.0) (child_of halves.1) e in
        f (name_word halves.0 both.0) (child_word halves.1 both.1)

-- all parts, and so the bytes that they are parts of
steps_word : (ps : List (List ℕ)) → is_some (steps_of ps) ≡ true → list_all (list_all is_word_byte) ps ≡ true
steps_word [] h = refl
steps_word (part ∷ ps) h =
    let both = both_some (λ s ss. s ∷ ss) (step_of part) (steps_of ps) h in
    ap (λ t. t && list_all (list_all is_word_byte) ps) (step_word part both.0) ∙ steps_word ps both.1

parts_word : (ps : List (List ℕ)) → is_some (name_from ps) ≡ true → list_all (list_all is_word_byte) ps ≡ true
parts_word [] h = cc
parts_word (part ∷ ps) h =
    let both = both_some (λ start trail. let x : List ℕ × ℕ × List (List ℕ × ℕ) = (start.0, start.1, trail) in x) (start_of part) (steps_of ps) h in
    ap (λ t. t && list_all (list_all is_word_byte) ps) (start_word part both.0) ∙ steps_word ps both.1

joined_all : (p : ℕ → Bool) (mark : ℕ) (ps : List (List ℕ)) → p mark ≡ true → list_all (list_all p) ps ≡ true → list_all p (join_with_byte mark ps) ≡ true
joined_all p mark [] h e = refl
joined_all p mark (a ∷ []) h e = (and_parts (list_all p a) true e).0
joined_all p mark (a ∷ b ∷ ps) h e =
    let each = and_parts (list_all p a) (list_all (list_all p) (b ∷ ps)) e in
    let more = join_with_byte mark (b ∷ ps) in
    list_all-append p a (mark ∷ more) ∙ ap (λ t. t && (p mark && list_all p more)) each.0 ∙ ap (λ t. t && list_all p more) h ∙ joined_all p mark (b ∷ ps) h each.1

node_word : (w : List ℕ) → node_name w ≡ true → list_all is_word_byte w ≡ true
node_word w h = sym (ap (list_all is_word_byte) (join_with_byte-slice_split 47 w)) ∙ joined_all is_word_byte 47 (parts w) refl (parts_word (parts w) h)

-- The first byte is the first of a name.
start_begins : (b : ℕ) (bs : List ℕ) → is_some (start_of (b ∷ bs)) ≡ true → is_letter b ≡ true
start_begins b bs h = by_test (b == 35) (cut 35 bs) h
  where
    by_test : (t : Bool) (o : Option (List ℕ × List ℕ))
        → is_some (option_and_then (λ halves. cond (is_name halves.0) (option_map (λ n. let x : List ℕ × ℕ = (halves.0, n) in x) (number_of halves.1))
        None) (cond t (Some ([], bs)) (option_map (with_front b) o))) ≡ true
        → is_letter b ≡ true
    by_test true o e = cc
    by_test false None e = cc
    by_test false (Some halves) e =
        let named = (tested (λ n. let x : List ℕ × ℕ = (b ∷ halves.0, n) in x) (is_name (b ∷ halves.0)) (number_of halves.1) e).0 in
        let short = and_parts (nat_le (length (b ∷ halves.0)) 64) (is_letter b && list_all is_name_byte halves.0) named in
        (and_parts (is_letter b) (list_all is_name_byte halves.0) short.1).0

part_begins : (b : ℕ) (bs : List ℕ) (ps : List (List ℕ)) → is_some (name_from ((b ∷ bs) ∷ ps)) ≡ true → is_letter b ≡ true
part_begins b bs ps h =
    start_begins b bs (both_some (λ start trail. let x : List ℕ × ℕ × List (List ℕ × ℕ) = (start.0, start.1, trail) in x) (start_of (b ∷ bs)) (steps_of ps) h).0

node_begins : (b : ℕ) (bs : List ℕ) → node_name (b ∷ bs) ≡ true → is_letter b ≡ true
node_begins b bs h = by_test (b == 47) (parts bs) h
  where
    by_test : (t : Bool) (ps : List (List ℕ)) → is_some (name_from (cond t ([] ∷ ps) (onto_first b ps))) ≡ true → is_letter b ≡ true
    by_test true ps e = cc
    by_test false [] e = part_begins b [] [] e
    by_test false (p ∷ ps) e = part_begins b p ps e

-- no name and no number, since one of its bytes stands in none
node_kind : (w : List ℕ) → node_name w ≡ true → kind_of_word w ≡ Some kinds.Node
node_kind w h = by_bytes (list_all is_name_byte w) refl
  where
    by_bytes : (t : Bool) → list_all is_name_byte w ≡ t → kind_of_word w ≡ Some kinds.Node
    by_bytes true e = let plain = plain_is_no_node w e in cc
    by_bytes false e = sym (joined_kind w true e (sym h))

pub node_front : (w bs : List ℕ) → node_name w ≡ true → Ends bs → front_of (w ++ bs) ≡ front.Token kinds.Node (length w)
node_front [] bs h e = cc
node_front (b ∷ w) bs h e = word_front b w bs kinds.Node (letter_begins b (node_begins b w h)) (and_parts (is_word_byte b) (list_all is_word_byte w) (node_word (b ∷ w) h)).1 e (node_kind (b ∷ w) h)

pub some_node : (w : List ℕ) → node_name w ≡ true → 0 < length w
some_node [] h = cc
some_node (b ∷ w) h = omega arith
