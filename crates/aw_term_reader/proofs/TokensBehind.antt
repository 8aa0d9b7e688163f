-- The tokens of bytes that stand behind others in a line.
use Rattle.std.proofs.Common.{◌≡◌, ℕ, zero, suc, ◌+◌, ◌-◌, refl, sym, ◌∙◌, ap, List, [], ◌∷◌, ◌++◌, map, take, drop, length, arith, Result, Ok, Err, drop-drop}
use Rattle.std.proofs.Math.Seq.{drop-append_seam}
use Rattle.aw_lex.specs.declared.token.Token.{Token}
use Rattle.aw_lex.specs.declared.front.Front.{Front}
use Rattle.aw_lex.specs.declared.front.Front.TheVariants as front
use Rattle.aw_lex.specs.Tokens.{front_of, tokens_at, tokens_from, tokens_of, with_token}
use Rattle.aw_term_reader.specs.Lexemes.{said, slice, lexemes}
use Rattle.aw_term_reader.proofs.SaysTokens.{Lexes}

-- the same token, so many bytes further
abbrev further : ℕ → Token → Token
further n t = record { kind = t.kind; start = n + t.start; end = n + t.end }

abbrev all_further : ℕ → Result (List Token) ℕ → Result (List Token) ℕ
all_further n (Ok ts) = Ok (map (further n) ts)
all_further n (Err at) = Err (n + at)

token_further : (n : ℕ) (token : Token) (r : Result (List Token) ℕ) → with_token (further n token) (all_further n r) ≡ all_further n (with_token token r)
token_further n token (Ok ts) = refl
token_further n token (Err at) = refl

front_further : (n at : ℕ) (f : Front) (near far : ℕ → Result (List Token) ℕ) → ((passed : ℕ) → far passed ≡ all_further n (near passed)) →
    tokens_at f (n + at) far ≡ all_further n (tokens_at f at near)
front_further n at front.Blank near far h = h 0
front_further n at (front.Token kind len) near far h =
    let token : Token = record { kind = kind; start = at; end = at + len } in
    let end : (n + at) + len ≡ n + (at + len) = omega arith in
    ap (λ e. let t : Token = record { kind = kind; start = n + at; end = e } in with_token t (far (len - 1))) end
    ∙ ap (with_token (further n token)) (h (len - 1)) ∙ token_further n token (near (len - 1))
front_further n at front.Bad near far h = refl

tokens_further : (n at passed : ℕ) (bs : List ℕ) → tokens_from (n + at) passed bs ≡ all_further n (tokens_from at passed bs)
tokens_further n at passed [] = refl
tokens_further n at (suc k) (b ∷ bs) =
    let next : (n + at) + 1 ≡ n + (at + 1) = omega arith in
    ap (λ m. tokens_from m k bs) next ∙ tokens_further n (at + 1) k bs
tokens_further n at zero (b ∷ bs) =
    let next : (n + at) + 1 ≡ n + (at + 1) = omega arith in
    front_further n at (front_of (b ∷ bs)) (λ passed. tokens_from (at + 1) passed bs) (λ passed. tokens_from ((n + at) + 1) passed bs)
    (λ passed. ap (λ m. tokens_from m passed bs) next ∙ tokens_further n (at + 1) passed bs)

slice_further : (before bs : List ℕ) (t : Token) → slice (before ++ bs) (further (length before) t) ≡ slice bs t
slice_further before bs t =
    let n = length before in
    let size : (n + t.end) - (n + t.start) ≡ t.end - t.start = omega arith in
    ap (λ k. take k (drop (n + t.start) (before ++ bs))) size
    ∙ ap (take (t.end - t.start)) (sym (drop-drop t.start n (before ++ bs)) ∙ ap (drop t.start) (drop-append_seam before bs))

said_further : (before bs : List ℕ) (ts : List Token) → lexemes (before ++ bs) (map (further (length before)) ts) ≡ lexemes bs ts
said_further before bs [] = refl
said_further before bs (t ∷ ts) = λ i. said t.kind (slice_further before bs t i) ∷ said_further before bs ts i

-- What bytes say by themselves they say behind others.
pub lexes_tokens : (bs : List ℕ) (ts : List Token) → tokens_of bs ≡ Ok ts → Lexes bs (lexemes bs ts)
lexes_tokens bs ts e before =
    let n = length before in
    let at : n ≡ n + 0 = omega arith in
    (map (further n) ts, ap (λ k. tokens_from k 0 bs) at ∙ tokens_further n 0 0 bs ∙ ap (all_further n) e, said_further before bs ts)
