-- A line that is spelled is read again.
use Rattle.std.proofs.Common.{◌≡◌, true, ℕ, false, cond, List, [], ◌∷◌, ◌++◌, Option, Some, option_map, refl, sym, ap, ◌∙◌, append_assoc, append-nil, arith}
use Rattle.aw_term.specs.Trees as P
use Rattle.aw_term.specs.WellFormed.{Each}
use Rattle.aw_term.proofs.Eaches.{each_append}
use Rattle.aw_grammar.specs.Written.{Written, Word, Apply, Literal, Writtens, Empty, Then, WrittenChild, WrittenRule, side_by_side}
use Rattle.aw_term_reader.specs.Lexemes.{Lexeme, Name, Mark}
use Rattle.aw_term_reader.specs.Laws.{AreWritten}
use Rattle.aw_term_reader.specs.Terms.{spelling, spellings, spellings_behind, names_of}
use Rattle.aw_term_reader.specs.Forms.{◌>>=◌, name, terms_between, names_between, terms_in_braces, names_in_braces}
use Rattle.aw_term_reader.proofs.ReadsSpelled.{reads_spelled}
use Rattle.aw_spec.specs.Laws.{IsWrittenChild, IsWrittenLine}
use Rattle.aw_spec.specs.Lines.{Line, RoleLine, ConLine, SortLine, StartLine, OfferLine, UseLine, TypeLine, ShapeLine, CarryLine, DependsLine, FreeLine}
use Rattle.aw_spec.specs.Lines.{RuleLine, ScheduleLine, as_words, in_parentheses, in_angles, params_spelling, child_spelling, behind_child}
use Rattle.aw_spec.specs.Lines.{children_spelling, rule_spelling, line_spelling}
use Rattle.aw_spec.specs.ReadLine.{child_of, is_semicolon, in_front, pieces, children_of, rest_of_rule, line_of}
use Rattle.aw_spec.proofs.SpelledLines.{parenthesised, angled}

pub then : {A B : Type 0} (o : Option A) (x : A) (f : A → Option B) (y : Option B) → o ≡ Some x → f x ≡ y → (o >>= f) ≡ y
then o x f y e h = ap (λ k. k >>= f) e ∙ h

terms_in_parentheses : (ts : List Written) (rest : List Lexeme) → AreWritten (side_by_side ts) → terms_between 40 41 (in_parentheses ts ++ rest) ≡ Some (ts, rest)
terms_in_parentheses ts rest w = ap (terms_between 40 41) (sym (parenthesised ts rest)) ∙ reads_spelled 41 ts rest (λ e. omega (arith, e)) (λ e. omega (arith, e)) w

terms_in_angles : (ts : List Written) (rest : List Lexeme) → AreWritten (side_by_side ts) → terms_between 60 62 (in_angles ts ++ rest) ≡ Some (ts, rest)
terms_in_angles ts rest w = ap (terms_between 60 62) (sym (angled ts rest)) ∙ reads_spelled 62 ts rest (λ e. omega (arith, e)) (λ e. omega (arith, e)) w

words_written : (ns : List (List ℕ)) → AreWritten (side_by_side (as_words ns))
words_written [] = tt
words_written (n ∷ ns) = (tt, words_written ns)

names_of_words : (ns : List (List ℕ)) → names_of (as_words ns) ≡ Some ns
names_of_words [] = refl
names_of_words (n ∷ ns) = ap (option_map (λ names. n ∷ names)) (names_of_words ns)

names_in_angles : (ns : List (List ℕ)) (rest : List Lexeme) → names_between 60 62 (in_angles (as_words ns) ++ rest) ≡ Some (ns, rest)
names_in_angles ns rest =
    then (terms_between 60 62 (in_angles (as_words ns) ++ rest)) (as_words ns, rest) (λ terms. names_of terms.0 >>= λ names. Some (names, terms.1))
    (Some (ns, rest)) (terms_in_angles (as_words ns) rest (words_written ns))
    (then (names_of (as_words ns)) ns (λ names. Some (names, rest)) (Some (ns, rest)) (names_of_words ns) refl)

params_read : (ns : List (List ℕ)) (rest : List Lexeme) → names_in_braces (params_spelling ns ++ Mark 58 ∷ rest) ≡ Some (ns, Mark 58 ∷ rest)
params_read [] rest = refl
params_read (n ∷ ns) rest =
    let left = Mark 58 ∷ rest in
    let words = as_words (n ∷ ns) in
    let read : terms_in_braces (params_spelling (n ∷ ns) ++ left) ≡ Some (words, left) =
    ap (λ k. terms_in_braces (Mark 123 ∷ k)) (append_assoc (spellings (side_by_side words)) (Mark 125 ∷ []) left) ∙ reads_spelled 125 words left
    (λ e. omega (arith, e)) (λ e. omega (arith, e)) (words_written (n ∷ ns)) in
    then (terms_in_braces (params_spelling (n ∷ ns) ++ left)) (words, left) (λ terms. names_of terms.0 >>= λ names. Some (names, terms.1)) (Some (n ∷ ns, left)) read
    (then (names_of words) (n ∷ ns) (λ names. Some (names, left)) (Some (n ∷ ns, left)) (names_of_words (n ∷ ns)) refl)

child_reads : (c : WrittenChild) → IsWrittenChild c → child_of (child_spelling c) ≡ Some c
child_reads c w =
    let angles = in_angles (as_words c.results) in
    then (terms_between 40 41 (in_parentheses c.args ++ angles)) (c.args, angles) _ (Some c) (terms_in_parentheses c.args angles w)
    (then (names_between 60 62 angles) (c.results, []) _ (Some c) (ap (names_between 60 62) (sym (append-nil angles)) ∙ names_in_angles c.results []) refl)

-- no `;` among these
abbrev IsUncut : List Lexeme → Type 0
IsUncut ls = Each (λ l. is_semicolon l ≡ false) ls

uncut_both : (xs ys : List Lexeme) → IsUncut xs → IsUncut ys → IsUncut (xs ++ ys)
uncut_both xs ys h k = each_append (λ l. is_semicolon l ≡ false) xs ys h k

mutual
  uncut_term : (t : Written) → IsUncut (spelling t)
  uncut_term (Word n) = (refl, tt)
  uncut_term (Apply n ts) = (refl, (refl, uncut_both (spellings ts) (Mark 41 ∷ []) (uncut_terms ts) (refl, tt)))
  uncut_term (Literal (P.Con c)) = tt
  uncut_term (Literal (P.Num n)) = (refl, tt)
  uncut_term (Literal (P.Text t)) = (refl, tt)

  uncut_terms : (ts : Writtens) → IsUncut (spellings ts)
  uncut_terms Empty = tt
  uncut_terms (Then t ts) = uncut_both (spelling t) (spellings_behind ts) (uncut_term t) (uncut_behind ts)

  uncut_behind : (ts : Writtens) → IsUncut (spellings_behind ts)
  uncut_behind Empty = tt
  uncut_behind (Then t ts) = (refl, uncut_both (spelling t) (spellings_behind ts) (uncut_term t) (uncut_behind ts))

uncut_child : (c : WrittenChild) → IsUncut (child_spelling c)
uncut_child c = (
  refl,
  uncut_both (in_parentheses c.args) (in_angles (as_words c.results))
      (refl, uncut_both (spellings (side_by_side c.args)) (Mark 41 ∷ []) (uncut_terms (side_by_side c.args)) (refl, tt))
      (refl, uncut_both (spellings (side_by_side (as_words c.results))) (Mark 62 ∷ []) (uncut_terms (side_by_side (as_words c.results))) (refl, tt)),
)

one_piece : (xs : List Lexeme) → IsUncut xs → pieces xs ≡ xs ∷ []
one_piece [] h = refl
one_piece (x ∷ xs) h = ap (λ b. cond b ([] ∷ pieces xs) (in_front x (pieces xs))) h.0 ∙ ap (in_front x) (one_piece xs h.1)

first_piece : (xs ys : List Lexeme) → IsUncut xs → pieces (xs ++ Mark 59 ∷ ys) ≡ xs ∷ pieces ys
first_piece [] ys h = refl
first_piece (x ∷ xs) ys h = ap (λ b. cond b ([] ∷ pieces (xs ++ Mark 59 ∷ ys)) (in_front x (pieces (xs ++ Mark 59 ∷ ys)))) h.0 ∙ ap (in_front x) (first_piece xs ys h.1)

-- the spellings of children
abbrev spelled_children : List WrittenChild → List (List Lexeme)
spelled_children [] = []
spelled_children (c ∷ cs) = child_spelling c ∷ spelled_children cs

pieces_of_children : (c : WrittenChild) (cs : List WrittenChild) → pieces (child_spelling c ++ behind_child cs) ≡ child_spelling c ∷ spelled_children cs
pieces_of_children c [] = ap pieces (append-nil (child_spelling c)) ∙ one_piece (child_spelling c) (uncut_child c)
pieces_of_children c (d ∷ ds) = first_piece (child_spelling c) (child_spelling d ++ behind_child ds) (uncut_child c) ∙ ap (λ ps. child_spelling c ∷ ps) (pieces_of_children d ds)

children_read : (cs : List WrittenChild) → Each IsWrittenChild cs → children_of (spelled_children cs) ≡ Some cs
children_read [] w = refl
children_read (c ∷ cs) w = then (child_of (child_spelling c)) c _ (Some (c ∷ cs)) (child_reads c w.0) (then (children_of (spelled_children cs)) cs _ (Some (c ∷ cs)) (children_read cs w.1) refl)

rest_reads : (cs : List WrittenChild) → Each IsWrittenChild cs → rest_of_rule (children_spelling cs) ≡ Some cs
rest_reads [] w = refl
rest_reads (c ∷ cs) w = ap children_of (pieces_of_children c cs) ∙ children_read (c ∷ cs) w

rule_reads : (r : WrittenRule) → IsWrittenLine (RuleLine r) → line_of (rule_spelling r) ≡ Some (RuleLine r)
rule_reads r w =
    let children = children_spelling r.children in
    let behind_patterns = in_angles r.results ++ children in
    let behind_sort = in_parentheses r.patterns ++ behind_patterns in
    then (names_in_braces (params_spelling r.params ++ Mark 58 ∷ Name r.sort ∷ behind_sort)) (r.params, Mark 58 ∷ Name r.sort ∷ behind_sort) _
    (Some (RuleLine r)) (params_read r.params (Name r.sort ∷ behind_sort))
    (then (terms_between 40 41 behind_sort) (r.patterns, behind_patterns) _ (Some (RuleLine r)) (terms_in_parentheses r.patterns behind_patterns w.0)
    (then (terms_between 60 62 behind_patterns) (r.results, children) _ (Some (RuleLine r)) (terms_in_angles r.results children w.1)
    (then (rest_of_rule children) r.children _ (Some (RuleLine r)) (rest_reads r.children w.2) refl)))

names_in_parentheses : (ns : List (List ℕ)) (rest : List Lexeme) → names_between 40 41 (in_parentheses (as_words ns) ++ rest) ≡ Some (ns, rest)
names_in_parentheses ns rest =
    then (terms_between 40 41 (in_parentheses (as_words ns) ++ rest)) (as_words ns, rest) (λ terms. names_of terms.0 >>= λ names. Some
    (names, terms.1)) (Some (ns, rest)) (terms_in_parentheses (as_words ns) rest (words_written ns))
    (then (names_of (as_words ns)) ns (λ names. Some (names, rest)) (Some (ns, rest)) (names_of_words ns) refl)

shape_reads : (con : List ℕ) (parts : List (List ℕ)) (own : List ℕ) → line_of (line_spelling (ShapeLine con parts own)) ≡ Some (ShapeLine con parts own)
shape_reads con parts own =
    then (names_between 40 41 (in_parentheses (as_words parts) ++ Name own ∷ [])) (parts, Name own ∷ []) _ (Some (ShapeLine con parts own)) (names_in_parentheses parts (Name own ∷ [])) refl

carry_reads : (sort : List ℕ) (takes gives : List (List ℕ)) → line_of (line_spelling (CarryLine sort takes gives)) ≡ Some (CarryLine sort takes gives)
carry_reads sort takes gives =
    let angles = in_angles (as_words gives) in
    then (names_between 40 41 (in_parentheses (as_words takes) ++ angles)) (takes, angles) _ (Some (CarryLine sort takes gives)) (names_in_parentheses takes angles)
    (then (names_between 60 62 angles) (gives, []) _ (Some (CarryLine sort takes gives)) (ap (names_between 60 62) (sym (append-nil angles)) ∙ names_in_angles gives []) refl)

pub line_reads : (l : Line) → IsWrittenLine l → line_of (line_spelling l) ≡ Some l
line_reads (RoleLine name) w = refl
line_reads (ConLine name arity) w = refl
line_reads (SortLine name role takes gives) w = refl
line_reads (StartLine sort) w = refl
line_reads (OfferLine sort) w = refl
line_reads (UseLine role sort) w = refl
line_reads (TypeLine name) w = refl
line_reads (ShapeLine con parts own) w = shape_reads con parts own
line_reads (CarryLine sort takes gives) w = carry_reads sort takes gives
line_reads (DependsLine sort i j) w = refl
line_reads FreeLine w = refl
line_reads (RuleLine rule) w = rule_reads rule w
line_reads (ScheduleLine false) w = refl
line_reads (ScheduleLine true) w = refl
