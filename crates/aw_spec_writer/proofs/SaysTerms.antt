-- Written terms and lines say the lexemes that spell them.
use Rattle.std.proofs.Common.{◌≡◌, ℕ, ◌<◌, ◌^◌, refl, sym, ◌∙◌, ap, true, false, codes, List, [], ◌∷◌, ◌++◌, append_assoc, append-nil, arith}
use Rattle.std.specs.Fmt.{decimal}
use Rattle.aw_spelling.specs.Spelling.{is_name, is_content}
use Rattle.aw_term.specs.Trees.{Never, Head, Con, Num, Text}
use Rattle.aw_term.specs.WellFormed.{Each}
use Rattle.aw_grammar.specs.Written.{Written, Word, Apply, Literal, Writtens, Empty, Then, WrittenChild, WrittenRule, side_by_side}
use Rattle.aw_term_reader.specs.Lexemes.{Lexeme, Name, Number, Mark}
use Rattle.aw_term_reader.specs.Terms.{spelling, spellings, spellings_behind}
use Rattle.aw_spec.specs.Lines.{Line, RoleLine, ConLine, SortLine, StartLine, OfferLine, UseLine, TypeLine, ShapeLine, CarryLine, DependsLine, FreeLine}
use Rattle.aw_spec.specs.Lines.{RuleLine, ScheduleLine, as_words, in_parentheses, in_angles, params_spelling, child_spelling, behind_child}
use Rattle.aw_spec.specs.Lines.{children_spelling, rule_spelling, line_spelling}
use Rattle.aw_spec_writer.specs.LineTexts.{term_text, parts_text, parts_behind, terms_text, names_text, params_text, child_text, children_behind, children_text, rule_text, line_text}
use Rattle.aw_term_reader.proofs.Lexing.{Ends}
use Rattle.aw_term_reader.proofs.SaysTokens.{Says, moved, says_nothing, says_blank, says_name, says_number, says_text, says_mark, says_last_name, says_last_number}

-- a name is a name
abbrev pub IsName : List ℕ → Type 0
IsName n = is_name n ≡ true

abbrev pub IsSpelledHead : Head → Type 0
IsSpelledHead (Con c) = Never
IsSpelledHead (Num n) = n < 2 ^ 64
IsSpelledHead (Text t) = is_content t ≡ true

-- its names are names, its texts are contents, and its numbers have 64 bits
abbrev mutual
  pub IsSpelledTerm : Written → Type 0
  IsSpelledTerm (Word n) = IsName n
  IsSpelledTerm (Apply n ts) = IsName n × AreSpelledParts ts
  IsSpelledTerm (Literal h) = IsSpelledHead h

  pub AreSpelledParts : Writtens → Type 0
  AreSpelledParts Empty = Unit {0}
  AreSpelledParts (Then t ts) = IsSpelledTerm t × AreSpelledParts ts

behind_ends : (ts : Writtens) (bs : List ℕ) → Ends bs → Ends (parts_behind ts ++ bs)
behind_ends Empty bs e = e
behind_ends (Then t ts) bs e = refl

mutual
  term_says : (t : Written) (bs : List ℕ) (ls : List Lexeme) → IsSpelledTerm t → Ends bs → Says bs ls → Says (term_text t ++ bs) (spelling t ++ ls)
  term_says (Word n) bs ls h e s = says_name n bs ls h e s
  term_says (Apply n ts) bs ls h e s =
      moved ((n ++ (codes "(" ++ (parts_text ts ++ codes ")"))) ++ bs) (n ++ 40 ∷ (parts_text ts ++ 41 ∷ bs))
      (Name n ∷ Mark 40 ∷ ((spellings ts ++ Mark 41 ∷ []) ++ ls)) (Name n ∷ Mark 40 ∷ (spellings ts ++ Mark 41 ∷ ls))
      (append_assoc n (40 ∷ (parts_text ts ++ 41 ∷ [])) bs ∙ ap (λ xs. n ++ 40 ∷ xs) (append_assoc (parts_text ts) (41 ∷ []) bs))
      (ap (λ ks. Name n ∷ Mark 40 ∷ ks) (append_assoc (spellings ts) (Mark 41 ∷ []) ls))
      (says_name n (40 ∷ (parts_text ts ++ 41 ∷ bs)) (Mark 40 ∷ (spellings ts ++ Mark 41 ∷ ls)) h.0 refl
      (says_mark 40 (parts_text ts ++ 41 ∷ bs) (spellings ts ++ Mark 41 ∷ ls) refl refl refl
      (parts_say ts (41 ∷ bs) (Mark 41 ∷ ls) h.1 refl (says_mark 41 bs ls refl refl refl s))))
  term_says (Literal (Con c)) bs ls h e s = elim h [ ]
  term_says (Literal (Num n)) bs ls h e s = says_number n bs ls h e s
  term_says (Literal (Text t)) bs ls h e s = says_text t bs ls h s

  pub parts_say : (ts : Writtens) (bs : List ℕ) (ls : List Lexeme) → AreSpelledParts ts → Ends bs → Says bs ls → Says (parts_text ts ++ bs) (spellings ts ++ ls)
  parts_say Empty bs ls h e s = s
  parts_say (Then t ts) bs ls h e s =
      moved ((term_text t ++ parts_behind ts) ++ bs) (term_text t ++ (parts_behind ts ++ bs)) ((spelling t ++ spellings_behind ts) ++ ls) (spelling t ++ (spellings_behind ts ++ ls))
      (append_assoc (term_text t) (parts_behind ts) bs) (append_assoc (spelling t) (spellings_behind ts) ls)
      (term_says t (parts_behind ts ++ bs) (spellings_behind ts ++ ls) h.0 (behind_ends ts bs e) (behind_says ts bs ls h.1 e s))

  behind_says : (ts : Writtens) (bs : List ℕ) (ls : List Lexeme) → AreSpelledParts ts → Ends bs → Says bs ls → Says (parts_behind ts ++ bs) (spellings_behind ts ++ ls)
  behind_says Empty bs ls h e s = s
  behind_says (Then t ts) bs ls h e s =
      moved (44 ∷ 32 ∷ ((term_text t ++ parts_behind ts) ++ bs)) (44 ∷ 32 ∷ (term_text t ++ (parts_behind ts ++ bs)))
      (Mark 44 ∷ ((spelling t ++ spellings_behind ts) ++ ls)) (Mark 44 ∷ (spelling t ++ (spellings_behind ts ++ ls)))
      (ap (λ xs. 44 ∷ 32 ∷ xs) (append_assoc (term_text t) (parts_behind ts) bs)) (ap (λ ks. Mark 44 ∷ ks) (append_assoc (spelling t) (spellings_behind ts) ls))
      (says_mark 44 (32 ∷ (term_text t ++ (parts_behind ts ++ bs))) (spelling t ++ (spellings_behind ts ++ ls)) refl refl refl
      (says_blank (term_text t ++ (parts_behind ts ++ bs)) (spelling t ++ (spellings_behind ts ++ ls))
      (term_says t (parts_behind ts ++ bs) (spellings_behind ts ++ ls) h.0 (behind_ends ts bs e) (behind_says ts bs ls h.1 e s))))

abbrev pub AreSpelled : List Written → Type 0
AreSpelled ts = AreSpelledParts (side_by_side ts)

-- terms between parentheses, and between angles
in_parentheses_say : (ts : List Written) (bs : List ℕ) (ls : List Lexeme) → AreSpelled ts → Says bs ls → Says (40 ∷ (terms_text ts ++ 41 ∷ bs)) (in_parentheses ts ++ ls)
in_parentheses_say ts bs ls h s =
    moved (40 ∷ (terms_text ts ++ 41 ∷ bs)) (40 ∷ (terms_text ts ++ 41 ∷ bs)) (Mark 40 ∷ ((spellings (side_by_side ts) ++ Mark 41 ∷ []) ++ ls))
    (Mark 40 ∷ (spellings (side_by_side ts) ++ Mark 41 ∷ ls)) refl
    (ap (λ ks. Mark 40 ∷ ks) (append_assoc (spellings (side_by_side ts)) (Mark 41 ∷ []) ls))
    (says_mark 40 (terms_text ts ++ 41 ∷ bs) (spellings (side_by_side ts) ++ Mark 41 ∷ ls) refl refl refl
    (parts_say (side_by_side ts) (41 ∷ bs) (Mark 41 ∷ ls) h refl (says_mark 41 bs ls refl refl refl s)))

in_angles_say : (ts : List Written) (bs : List ℕ) (ls : List Lexeme) → AreSpelled ts → Says bs ls → Says (60 ∷ (terms_text ts ++ 62 ∷ bs)) (in_angles ts ++ ls)
in_angles_say ts bs ls h s =
    moved (60 ∷ (terms_text ts ++ 62 ∷ bs)) (60 ∷ (terms_text ts ++ 62 ∷ bs)) (Mark 60 ∷ ((spellings (side_by_side ts) ++ Mark 62 ∷ []) ++ ls))
    (Mark 60 ∷ (spellings (side_by_side ts) ++ Mark 62 ∷ ls)) refl
    (ap (λ ks. Mark 60 ∷ ks) (append_assoc (spellings (side_by_side ts)) (Mark 62 ∷ []) ls))
    (says_mark 60 (terms_text ts ++ 62 ∷ bs) (spellings (side_by_side ts) ++ Mark 62 ∷ ls) refl refl refl
    (parts_say (side_by_side ts) (62 ∷ bs) (Mark 62 ∷ ls) h refl (says_mark 62 bs ls refl refl refl s)))

words_spelled : (ns : List (List ℕ)) → Each IsName ns → AreSpelled (as_words ns)
words_spelled [] h = tt
words_spelled (n ∷ ns) h = (h.0, words_spelled ns h.1)

params_say : (ns : List (List ℕ)) (bs : List ℕ) (ls : List Lexeme) → Each IsName ns → Says (32 ∷ bs) ls → Says (params_text ns ++ 32 ∷ bs) (params_spelling ns ++ ls)
params_say [] bs ls h s = s
params_say (n ∷ ns) bs ls h s =
    let ts = side_by_side (as_words (n ∷ ns)) in
    moved (32 ∷ 123 ∷ ((parts_text ts ++ 125 ∷ []) ++ 32 ∷ bs)) (32 ∷ 123 ∷ (parts_text ts ++ 125 ∷ 32 ∷ bs))
    (Mark 123 ∷ ((spellings ts ++ Mark 125 ∷ []) ++ ls)) (Mark 123 ∷ (spellings ts ++ Mark 125 ∷ ls))
    (ap (λ xs. 32 ∷ 123 ∷ xs) (append_assoc (parts_text ts) (125 ∷ []) (32 ∷ bs))) (ap (λ ks. Mark 123 ∷ ks) (append_assoc (spellings ts) (Mark 125 ∷ []) ls))
    (says_blank (123 ∷ (parts_text ts ++ 125 ∷ 32 ∷ bs)) (Mark 123 ∷ (spellings ts ++ Mark 125 ∷ ls))
    (says_mark 123 (parts_text ts ++ 125 ∷ 32 ∷ bs) (spellings ts ++ Mark 125 ∷ ls) refl refl refl
    (parts_say ts (125 ∷ 32 ∷ bs) (Mark 125 ∷ ls) (words_spelled (n ∷ ns) h) refl (says_mark 125 (32 ∷ bs) ls refl refl refl s))))

params_end : (ns : List (List ℕ)) (bs : List ℕ) → Ends (params_text ns ++ 32 ∷ bs)
params_end [] bs = refl
params_end (n ∷ ns) bs = refl

pub record IsSpelledChild (c : WrittenChild) : Type 0 where
  pub sort : IsName c.sort
  pub args : AreSpelled c.args
  pub results : Each IsName c.results

child_says : (c : WrittenChild) (bs : List ℕ) (ls : List Lexeme) → IsSpelledChild c → Says bs ls → Says (child_text c ++ bs) (child_spelling c ++ ls)
child_says c bs ls h s =
    let args = terms_text c.args in
    let results = names_text c.results in
    moved ((c.sort ++ (40 ∷ (args ++ 41 ∷ 60 ∷ (results ++ 62 ∷ [])))) ++ bs) (c.sort ++ 40 ∷ (args ++ 41 ∷ 60 ∷ (results ++ 62 ∷ bs)))
    (Name c.sort ∷ ((in_parentheses c.args ++ in_angles (as_words c.results)) ++ ls)) (Name c.sort ∷ (in_parentheses c.args ++ (in_angles (as_words c.results) ++ ls)))
    (append_assoc c.sort (40 ∷ (args ++ 41 ∷ 60 ∷ (results ++ 62 ∷ []))) bs
    ∙ ap (λ xs. c.sort ++ 40 ∷ xs) (append_assoc args (41 ∷ 60 ∷ (results ++ 62 ∷ [])) bs ∙ ap (λ xs. args ++ 41 ∷ 60 ∷ xs) (append_assoc results (62 ∷ []) bs)))
    (ap (λ ks. Name c.sort ∷ ks) (append_assoc (in_parentheses c.args) (in_angles (as_words c.results)) ls))
    (says_name c.sort (40 ∷ (args ++ 41 ∷ 60 ∷ (results ++ 62 ∷ bs))) (in_parentheses c.args ++ (in_angles (as_words c.results) ++ ls)) h.sort refl
    (in_parentheses_say c.args (60 ∷ (results ++ 62 ∷ bs)) (in_angles (as_words c.results) ++ ls) h.args
    (in_angles_say (as_words c.results) bs ls (words_spelled c.results h.results) s)))

behind_say : (cs : List WrittenChild) → Each IsSpelledChild cs → Says (children_behind cs) (behind_child cs)
behind_say [] h = says_nothing
behind_say (c ∷ cs) h =
    let bs = child_text c ++ children_behind cs in
    let ls = child_spelling c ++ behind_child cs in
    says_blank (59 ∷ 32 ∷ bs) (Mark 59 ∷ ls) (says_mark 59 (32 ∷ bs) ls refl refl refl (says_blank bs ls (child_says c (children_behind cs) (behind_child cs) h.0 (behind_say cs h.1))))

children_say : (cs : List WrittenChild) → Each IsSpelledChild cs → Says (children_text cs) (children_spelling cs)
children_say [] h = says_nothing
children_say (c ∷ cs) h =
    let bs = child_text c ++ children_behind cs in
    let ls = child_spelling c ++ behind_child cs in
    says_blank (61 ∷ 32 ∷ bs) (Mark 61 ∷ ls) (says_mark 61 (32 ∷ bs) ls refl refl refl (says_blank bs ls (child_says c (children_behind cs) (behind_child cs) h.0 (behind_say cs h.1))))

pub record IsSpelledRule (r : WrittenRule) : Type 0 where
  pub name : IsName r.name
  pub params : Each IsName r.params
  pub sort : IsName r.sort
  pub patterns : AreSpelled r.patterns
  pub results : AreSpelled r.results
  pub children : Each IsSpelledChild r.children

rule_says : (r : WrittenRule) → IsSpelledRule r → Says (rule_text r) (rule_spelling r)
rule_says r h =
    let children = children_text r.children in
    let results = 60 ∷ (terms_text r.results ++ 62 ∷ children) in
    let patterns = 40 ∷ (terms_text r.patterns ++ 41 ∷ results) in
    let results_spelled = in_angles r.results ++ children_spelling r.children in
    let patterns_spelled = in_parentheses r.patterns ++ results_spelled in
    let behind = 58 ∷ 32 ∷ (r.sort ++ patterns) in
    let behind_spelled = Mark 58 ∷ Name r.sort ∷ patterns_spelled in
    says_name (codes "rule") (32 ∷ (r.name ++ (params_text r.params ++ 32 ∷ behind))) (Name r.name ∷ (params_spelling r.params ++ behind_spelled)) refl refl
    (says_blank (r.name ++ (params_text r.params ++ 32 ∷ behind)) (Name r.name ∷ (params_spelling r.params ++ behind_spelled))
    (says_name r.name (params_text r.params ++ 32 ∷ behind) (params_spelling r.params ++ behind_spelled) h.name (params_end r.params behind)
    (params_say r.params behind behind_spelled h.params
    (says_blank behind behind_spelled
    (says_mark 58 (32 ∷ (r.sort ++ patterns)) (Name r.sort ∷ patterns_spelled) refl refl refl
    (says_blank (r.sort ++ patterns) (Name r.sort ∷ patterns_spelled)
    (says_name r.sort patterns patterns_spelled h.sort refl
    (in_parentheses_say r.patterns results results_spelled h.patterns
    (in_angles_say r.results children (children_spelling r.children) h.results (children_say r.children h.children))))))))))

-- a line whose names are names, whose texts are contents, and whose numbers have 64 bits
abbrev pub IsSpelledLine : Line → Type 0
IsSpelledLine (RoleLine name) = IsName name
IsSpelledLine (ConLine name arity) = IsName name × (arity < 2 ^ 64)
IsSpelledLine (SortLine name role takes gives) = IsName name × IsName role × (takes < 2 ^ 64) × (gives < 2 ^ 64)
IsSpelledLine (StartLine sort) = IsName sort
IsSpelledLine (OfferLine sort) = IsName sort
IsSpelledLine (UseLine role sort) = IsName role × IsName sort
IsSpelledLine (TypeLine name) = IsName name
IsSpelledLine (ShapeLine con parts own) = IsName con × Each IsName parts × IsName own
IsSpelledLine (CarryLine sort takes gives) = IsName sort × Each IsName takes × Each IsName gives
IsSpelledLine (DependsLine sort i j) = IsName sort × (i < 2 ^ 64) × (j < 2 ^ 64)
IsSpelledLine FreeLine = Unit {0}
IsSpelledLine (RuleLine rule) = IsSpelledRule rule
IsSpelledLine (ScheduleLine loads) = Unit {0}

-- a word and a name
two_words : (word name : List ℕ) → IsName word → IsName name → Says (word ++ 32 ∷ name) (Name word ∷ Name name ∷ [])
two_words word name h k = says_name word (32 ∷ name) (Name name ∷ []) h refl (says_blank name (Name name ∷ []) (says_last_name name k))

pub line_says : (l : Line) → IsSpelledLine l → Says (line_text l) (line_spelling l)
line_says (RoleLine name) h = two_words (codes "role") name refl h
line_says (ConLine name arity) h =
    says_name (codes "con") (32 ∷ (name ++ 32 ∷ decimal arity)) (Name name ∷ Number arity ∷ []) refl refl
    (says_blank (name ++ 32 ∷ decimal arity) (Name name ∷ Number arity ∷ [])
    (says_name name (32 ∷ decimal arity) (Number arity ∷ []) h.0 refl (says_blank (decimal arity) (Number arity ∷ []) (says_last_number arity h.1))))
line_says (SortLine name role takes gives) h =
    let last = decimal takes ++ 32 ∷ decimal gives in
    says_name (codes "sort") (32 ∷ (name ++ 32 ∷ (role ++ 32 ∷ last))) (Name name ∷ Name role ∷ Number takes ∷ Number gives ∷ []) refl refl
    (says_blank (name ++ 32 ∷ (role ++ 32 ∷ last)) (Name name ∷ Name role ∷ Number takes ∷ Number gives ∷ [])
    (says_name name (32 ∷ (role ++ 32 ∷ last)) (Name role ∷ Number takes ∷ Number gives ∷ []) h.0 refl
    (says_blank (role ++ 32 ∷ last) (Name role ∷ Number takes ∷ Number gives ∷ [])
    (says_name role (32 ∷ last) (Number takes ∷ Number gives ∷ []) h.1 refl
    (says_blank last (Number takes ∷ Number gives ∷ [])
    (says_number takes (32 ∷ decimal gives) (Number gives ∷ []) h.2 refl (says_blank (decimal gives) (Number gives ∷ []) (says_last_number gives h.3))))))))
line_says (StartLine sort) h = two_words (codes "start") sort refl h
line_says (OfferLine sort) h = two_words (codes "offer") sort refl h
line_says (UseLine role sort) h =
    says_name (codes "use") (32 ∷ (role ++ 32 ∷ sort)) (Name role ∷ Name sort ∷ []) refl refl
    (says_blank (role ++ 32 ∷ sort) (Name role ∷ Name sort ∷ []) (two_words role sort h.0 h.1))
line_says (TypeLine name) h = two_words (codes "type") name refl h
line_says (ShapeLine con parts own) h =
    let last = 40 ∷ (names_text parts ++ 41 ∷ 32 ∷ own) in
    let words = in_parentheses (as_words parts) ++ Name own ∷ [] in
    says_name (codes "shape") (32 ∷ (con ++ 32 ∷ last)) (Name con ∷ words) refl refl
    (says_blank (con ++ 32 ∷ last) (Name con ∷ words)
    (says_name con (32 ∷ last) words h.0 refl
    (says_blank last words
    (in_parentheses_say (as_words parts) (32 ∷ own) (Name own ∷ []) (words_spelled parts h.1) (says_blank own (Name own ∷ []) (says_last_name own h.2))))))
line_says (CarryLine sort takes gives) h =
    let angles = 60 ∷ (names_text gives ++ 62 ∷ []) in
    let last = 40 ∷ (names_text takes ++ 41 ∷ angles) in
    let words = in_parentheses (as_words takes) ++ in_angles (as_words gives) in
    says_name (codes "carry") (32 ∷ (sort ++ 32 ∷ last)) (Name sort ∷ words) refl refl
    (says_blank (sort ++ 32 ∷ last) (Name sort ∷ words)
    (says_name sort (32 ∷ last) words h.0 refl
    (says_blank last words
    (in_parentheses_say (as_words takes) angles (in_angles (as_words gives)) (words_spelled takes h.1)
    (moved angles angles (in_angles (as_words gives)) (in_angles (as_words gives) ++ []) refl (sym (append-nil (in_angles (as_words gives))))
    (in_angles_say (as_words gives) [] [] (words_spelled gives h.2) says_nothing))))))
line_says (DependsLine sort i j) h =
    let last = decimal i ++ 32 ∷ decimal j in
    says_name (codes "depends") (32 ∷ (sort ++ 32 ∷ last)) (Name sort ∷ Number i ∷ Number j ∷ []) refl refl
    (says_blank (sort ++ 32 ∷ last) (Name sort ∷ Number i ∷ Number j ∷ [])
    (says_name sort (32 ∷ last) (Number i ∷ Number j ∷ []) h.0 refl
    (says_blank last (Number i ∷ Number j ∷ [])
    (says_number i (32 ∷ decimal j) (Number j ∷ []) h.1 refl (says_blank (decimal j) (Number j ∷ []) (says_last_number j h.2))))))
line_says FreeLine h = says_last_name (codes "free") refl
line_says (RuleLine rule) h = rule_says rule h
line_says (ScheduleLine false) h = says_last_name (codes "schedule") refl
line_says (ScheduleLine true) h =
    says_name (codes "schedule") (32 ∷ decimal 2) (Number 2 ∷ []) refl refl (says_blank (decimal 2) (Number 2 ∷ []) (says_last_number 2 (omega arith)))
