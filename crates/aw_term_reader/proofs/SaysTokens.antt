-- Bytes that say lexemes, wherever in a line they stand; and where they hold no line feed.
use Rattle.std.proofs.Common.{◌≡◌, ℕ, ◌+◌, ◌-◌, ◌<◌, ◌^◌, refl, sym, ◌∙◌, ap, subst, true, false, ◌==◌, ◌&&◌, not, List, [], ◌∷◌, ◌++◌, take, drop}
use Rattle.std.proofs.Common.{length, arith, unwrap_or, Ok, Some, is_some, append_assoc, append-nil, length-append}
use Rattle.std.proofs.Math.Seq.{take-append_seam, drop-append_seam}
use Rattle.std.proofs.lemmas.List.Folds.{list_all-append}
use Rattle.std.specs.Fmt.{decimal}
use Rattle.aw_spelling.specs.Spelling.{is_name, is_content, node_name, number_of, quoted}
use Rattle.aw_spelling.proofs.NodeNames.{lacks}
use Rattle.aw_spelling.proofs.Numbers.{number_again}
use Rattle.aw_spelling.proofs.Quotes.{unquoted_quoted}
use Rattle.aw_lex.specs.declared.token.Token.{Token}
use Rattle.aw_lex.specs.declared.token.TokenKind.{TokenKind}
use Rattle.aw_lex.specs.declared.token.TokenKind.TheVariants as kinds
use Rattle.aw_lex.specs.declared.front.Front.TheVariants as front
use Rattle.aw_lex.specs.Tokens.{is_blank, is_mark, front_of, tokens_from, with_token}
use Rattle.aw_lex.proofs.TokenSteps.{token_step}
use Rattle.aw_term_reader.specs.Lexemes.{Lexeme, Name, Number, Node, Quoted, Mark, said, lexemes}
use Rattle.aw_term_reader.proofs.NodeFronts.{node_front, some_node}
use Rattle.aw_term_reader.proofs.Lexing.{Ends, name_front, name_unbroken, some_name, number_front, some_number, number_unbroken, text_front, text_unbroken, mark_front}

-- the tokens of these bytes, behind others in a line, and what they say
abbrev pub Lexes : List ℕ → List Lexeme → Type 0
Lexes bs ls = (before : List ℕ) → (ts : List Token) × (tokens_from (length before) 0 bs ≡ Ok ts) × (lexemes (before ++ bs) ts ≡ ls)

-- and no line feed stands among the bytes
pub record Says (bs : List ℕ) (ls : List Lexeme) : Type 0 where
  pub lexed : Lexes bs ls
  pub unbroken : lacks 10 bs ≡ true

pub moved : (bs cs : List ℕ) (ls ks : List Lexeme) → bs ≡ cs → ls ≡ ks → Says cs ks → Says bs ls
moved bs cs ls ks e f s = subst (λ x. Says x ls) (sym e) (subst (Says cs) (sym f) s)

pub lexes_nothing : Lexes [] []
lexes_nothing before = ([], refl, refl)

pub says_nothing : Says [] []
says_nothing = record { lexed = lexes_nothing; unbroken = refl }

pub lexes_blank : (bs : List ℕ) (ls : List Lexeme) → Lexes bs ls → Lexes (32 ∷ bs) ls
lexes_blank bs ls s before =
    let more = s (before ++ 32 ∷ []) in
    let at : length before + 1 ≡ length (before ++ 32 ∷ []) = omega (arith, length-append before (32 ∷ [])) in
    (more.0, ap (λ n. tokens_from n 0 bs) at ∙ more.1, ap (λ line. lexemes line more.0) (sym (append_assoc before (32 ∷ []) bs)) ∙ more.2)

pub says_blank : (bs : List ℕ) (ls : List Lexeme) → Says bs ls → Says (32 ∷ bs) ls
says_blank bs ls s = record { lexed = lexes_blank bs ls s.lexed; unbroken = s.unbroken }

slice_front : (before w bs : List ℕ) → take ((length before + length w) - length before) (drop (length before) (before ++ (w ++ bs))) ≡ w
slice_front before w bs =
    let size : (length before + length w) - length before ≡ length w = omega arith in
    ap (λ xs. take ((length before + length w) - length before) xs) (drop-append_seam before (w ++ bs)) ∙ ap (λ n. take n (w ++ bs)) size ∙ take-append_seam w bs

lexes_token : (w bs : List ℕ) (kind : TokenKind) (l : Lexeme) (ls : List Lexeme) → 0 < length w → front_of (w ++ bs) ≡ front.Token kind (length w) →
    said kind w ≡ l → Lexes bs ls → Lexes (w ++ bs) (l ∷ ls)
lexes_token w bs kind l ls some found says s before =
    let token : Token = record { kind = kind; start = length before; end = length before + length w } in
    let more = s (before ++ w) in
    let at : length before + length w ≡ length (before ++ w) = omega (arith, length-append before w) in (
      token ∷ more.0,
      token_step (length before) (length w) kind (w ++ bs) some (omega (arith, length-append w bs)) found
          ∙ ap (λ xs. with_token token (tokens_from (length before + length w) 0 xs)) (drop-append_seam w bs)
          ∙ ap (λ n. with_token token (tokens_from n 0 bs)) at
          ∙ ap (with_token token) more.1,
      ap (λ xs. said kind xs ∷ lexemes (before ++ (w ++ bs)) more.0) (slice_front before w bs)
          ∙ ap (λ k. k ∷ lexemes (before ++ (w ++ bs)) more.0) says
          ∙ ap (λ ks. l ∷ ks) (ap (λ line. lexemes line more.0) (sym (append_assoc before w bs)) ∙ more.2),
    )

pub all_unbroken : (w bs : List ℕ) → lacks 10 w ≡ true → lacks 10 bs ≡ true → lacks 10 (w ++ bs) ≡ true
all_unbroken w bs h k = list_all-append (λ x. not (x == 10)) w bs ∙ ap (λ t. t && lacks 10 bs) h ∙ k

says_token : (w bs : List ℕ) (kind : TokenKind) (l : Lexeme) (ls : List Lexeme) → 0 < length w → front_of (w ++ bs) ≡ front.Token kind (length w) →
    said kind w ≡ l → lacks 10 w ≡ true → Says bs ls → Says (w ++ bs) (l ∷ ls)
says_token w bs kind l ls some found says whole s = record {
  lexed = lexes_token w bs kind l ls some found says s.lexed;
  unbroken = all_unbroken w bs whole s.unbroken;
}

pub lexes_name : (n bs : List ℕ) (ls : List Lexeme) → is_name n ≡ true → Ends bs → Lexes bs ls → Lexes (n ++ bs) (Name n ∷ ls)
lexes_name n bs ls h e s = lexes_token n bs kinds.Name (Name n) ls (some_name n h) (name_front n bs h e) refl s

pub lexes_number : (ds : List ℕ) (n : ℕ) (bs : List ℕ) (ls : List Lexeme) → number_of ds ≡ Some n → Ends bs → Lexes bs ls → Lexes (ds ++ bs) (Number n ∷ ls)
lexes_number ds n bs ls h e s = lexes_token ds bs kinds.Number (Number n) ls (some_number ds (ap is_some h)) (number_front ds bs (ap is_some h) e) (ap (λ o. Number (unwrap_or o 0)) h) s

pub lexes_node : (w bs : List ℕ) (ls : List Lexeme) → node_name w ≡ true → Ends bs → Lexes bs ls → Lexes (w ++ bs) (Node w ∷ ls)
lexes_node w bs ls h e s = lexes_token w bs kinds.Node (Node w) ls (some_node w h) (node_front w bs h e) refl s

pub says_name : (n bs : List ℕ) (ls : List Lexeme) → is_name n ≡ true → Ends bs → Says bs ls → Says (n ++ bs) (Name n ∷ ls)
says_name n bs ls h e s = says_token n bs kinds.Name (Name n) ls (some_name n h) (name_front n bs h e) refl (name_unbroken n h) s

pub says_number : (n : ℕ) (bs : List ℕ) (ls : List Lexeme) → n < 2 ^ 64 → Ends bs → Says bs ls → Says (decimal n ++ bs) (Number n ∷ ls)
says_number n bs ls h e s = record {
  lexed = lexes_number (decimal n) n bs ls (number_again n h) e s.lexed;
  unbroken = all_unbroken (decimal n) bs (number_unbroken n h) s.unbroken;
}

pub says_text : (t bs : List ℕ) (ls : List Lexeme) → is_content t ≡ true → Says bs ls → Says (quoted t ++ bs) (Quoted t ∷ ls)
says_text t bs ls h s =
    says_token (quoted t) bs kinds.Text (Quoted t) ls (omega arith) (text_front t bs h) (ap (λ o. Quoted (unwrap_or o [])) (unquoted_quoted t h)) (text_unbroken t h) s

pub says_mark : (m : ℕ) (bs : List ℕ) (ls : List Lexeme) → is_blank m ≡ false → is_mark m ≡ true → not (m == 10) ≡ true → Says bs ls → Says (m ∷ bs) (Mark m ∷ ls)
says_mark m bs ls h k u s = says_token (m ∷ []) bs (kinds.Mark m) (Mark m) ls (omega arith) (mark_front m bs h k) refl (ap (λ t. t && true) u) s

pub says_last_name : (n : List ℕ) → is_name n ≡ true → Says n (Name n ∷ [])
says_last_name n h = moved n (n ++ []) (Name n ∷ []) (Name n ∷ []) (sym (append-nil n)) refl (says_name n [] [] h tt says_nothing)

pub says_last_number : (n : ℕ) → n < 2 ^ 64 → Says (decimal n) (Number n ∷ [])
says_last_number n h = moved (decimal n) (decimal n ++ []) (Number n ∷ []) (Number n ∷ []) (sym (append-nil (decimal n))) refl (says_number n [] [] h tt says_nothing)
