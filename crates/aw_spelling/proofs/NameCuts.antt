-- A name that is cut off at a mark ends at the first byte that may not stand in a name.
use Rattle.std.proofs.Common.{◌≡◌, ℕ, suc, ◌+◌, ◌<◌, refl, sym, ◌∙◌, ap, subst, Bool, true, false, cond, not, ◌==◌, ◌&&◌, List, [], ◌∷◌, ◌++◌, take}
use Rattle.std.proofs.Common.{drop, length, get_or, arith, Option, Some, None, IfSome, option_map, drop-cons, take-append-drop, drop-drop, add-one}
use Rattle.std.proofs.lemmas.Bool.{not-true, and_parts, ne_eqb, eq-eqb}
use Rattle.std.proofs.lemmas.List.Sums.{prefix_len_stops}
use Rattle.std.specs.List.{list_all, prefix_len}
use Rattle.aw_spelling.specs.Spelling.{cut, with_front, is_name_byte}
use Rattle.aw_spelling.specs.NodeParts.{if_named}
use Rattle.aw_spelling.proofs.ByteRuns.{all_by_prefix}
use Rattle.aw_spelling.proofs.NodeNames.{lacks, cut_here, cut_nowhere, all_differ, joined_is_no_name}

-- the bytes before the first that fails
plain_one : (p : ℕ → Bool) (b : ℕ) (bs : List ℕ) (t : Bool) → p b ≡ t → list_all p (take (prefix_len p bs) bs) ≡ true
    → list_all p (take (cond t (1 + prefix_len p bs) 0) (b ∷ bs)) ≡ true
plain_one p b bs true h e =
    let n = prefix_len p bs in
    let up : 1 + n ≡ suc n = omega arith in
    ap (λ k. list_all p (take k (b ∷ bs))) up ∙ ap (λ t. t && list_all p (take n bs)) h ∙ e
plain_one p b bs false h e = refl

pub plain_front : (p : ℕ → Bool) (bs : List ℕ) → list_all p (take (prefix_len p bs) bs) ≡ true
plain_front p [] = refl
plain_front p (b ∷ bs) = plain_one p b bs (p b) refl (plain_front p bs)

-- the byte at which they end, and what stands behind it
parts_round : (bs : List ℕ) (n : ℕ) → n < length bs → bs ≡ take n bs ++ (get_or bs n 0 ∷ drop 1 (drop n bs))
parts_round bs n less =
    let rest : drop (suc n) bs ≡ drop 1 (drop n bs) = ap (λ k. drop k bs) (sym (add-one n)) ∙ sym (drop-drop 1 n bs) in
    sym (take-append-drop n bs) ∙ ap (λ xs. take n bs ++ xs) (drop-cons bs n 0 less) ∙ ap (λ xs. take n bs ++ (get_or bs n 0 ∷ xs)) rest

front_lacks : (mark : ℕ) (bs : List ℕ) → is_name_byte mark ≡ false → lacks mark (take (prefix_len is_name_byte bs) bs) ≡ true
front_lacks mark bs fails = all_differ is_name_byte mark (take (prefix_len is_name_byte bs) bs) fails (plain_front is_name_byte bs)

pub cut_there : (mark n : ℕ) (bs : List ℕ) → is_name_byte mark ≡ false → n ≡ prefix_len is_name_byte bs → n < length bs → get_or bs n 0 ≡ mark
    → cut mark bs ≡ Some (take n bs, drop 1 (drop n bs))
cut_there mark n bs fails e less here =
    let clear : lacks mark (take n bs) ≡ true = ap (λ k. lacks mark (take k bs)) e ∙ front_lacks mark bs fails in
    ap (cut mark) (parts_round bs n less ∙ ap (λ b. take n bs ++ (b ∷ drop 1 (drop n bs))) here)
    ∙ cut_here mark (take n bs) (drop 1 (drop n bs)) clear

pub all_of_name : (mark n : ℕ) (bs : List ℕ) → is_name_byte mark ≡ false → n ≡ prefix_len is_name_byte bs → n ≡ length bs → cut mark bs ≡ None
all_of_name mark n bs fails e whole =
    let plain : list_all is_name_byte bs ≡ true =
    sym (all_by_prefix is_name_byte bs) ∙ eq-eqb (prefix_len is_name_byte bs) (length bs) (sym e ∙ whole) in
    cut_nowhere mark bs (all_differ is_name_byte mark bs fails plain)

-- where it is another byte than the mark, no name stands before the first mark
abbrev NoName : Option (List ℕ × List ℕ) → Type 0
NoName o = IfSome o (λ halves. list_all is_name_byte halves.0 ≡ false)

none_after : (b : ℕ) (o : Option (List ℕ × List ℕ)) → is_name_byte b ≡ false → NoName (option_map (with_front b) o)
none_after b None h = tt
none_after b (Some halves) h = ap (λ t. t && list_all is_name_byte halves.0) h

pub and_false : (t : Bool) → (t && false) ≡ false
and_false true = refl
and_false false = refl

none_longer : (b : ℕ) (o : Option (List ℕ × List ℕ)) → NoName o → NoName (option_map (with_front b) o)
none_longer b None h = tt
none_longer b (Some halves) h = ap (λ t. is_name_byte b && t) h ∙ and_false (is_name_byte b)

stops_before : (mark b : ℕ) (front rest : List ℕ) → lacks mark front ≡ true → (b == mark) ≡ false → is_name_byte b ≡ false → NoName (cut mark (front ++ (b ∷ rest)))
stops_before mark b [] rest h other fails =
    subst (λ t. NoName (cond t (Some ([], rest)) (option_map (with_front b) (cut mark rest)))) (sym other) (none_after b (cut mark rest) fails)
stops_before mark b (f ∷ fs) rest h other fails =
    let each = and_parts (not (f == mark)) (lacks mark fs) h in
    let more = fs ++ (b ∷ rest) in
    subst (λ t. NoName (cond t (Some ([], more)) (option_map (with_front f) (cut mark more)))) (sym (not-true (f == mark) each.0))
    (none_longer f (cut mark more) (stops_before mark b fs rest each.1 other fails))

no_halves : (o : Option (List ℕ × List ℕ)) → NoName o → if_named o ≡ None
no_halves None h = refl
no_halves (Some halves) h = ap (λ t. cond t (Some halves) None) (joined_is_no_name halves.0 h)

pub no_mark_there : (mark n : ℕ) (bs : List ℕ) → is_name_byte mark ≡ false → n ≡ prefix_len is_name_byte bs → n < length bs → ¬ (get_or bs n 0 ≡ mark)
    → if_named (cut mark bs) ≡ None
no_mark_there mark n bs fails e less other =
    let clear : lacks mark (take n bs) ≡ true = ap (λ k. lacks mark (take k bs)) e ∙ front_lacks mark bs fails in
    let ends : is_name_byte (get_or bs n 0) ≡ false =
    ap (λ k. is_name_byte (get_or bs k 0)) e ∙ prefix_len_stops is_name_byte bs 0 (omega (arith, e, less)) in
    ap (λ xs. if_named (cut mark xs)) (parts_round bs n less)
    ∙ no_halves (cut mark (take n bs ++ (get_or bs n 0 ∷ drop 1 (drop n bs))))
    (stops_before mark (get_or bs n 0) (take n bs) (drop 1 (drop n bs)) clear (ne_eqb (get_or bs n 0) mark other) ends)
