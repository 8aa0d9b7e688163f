-- One step over a line.
use Rattle.std.proofs.Common.{◌≡◌, ℕ, zero, suc, ◌+◌, ◌<◌, ◌≤◌, refl, sym, ◌∙◌, ap, List, [], ◌∷◌, ◌++◌, drop, length, arith, Result, Ok, Err, append_assoc}
use Rattle.std.proofs.lemmas.List.{nil_from_length}
use Rattle.aw_lex.specs.declared.token.Token.{Token}
use Rattle.aw_lex.specs.declared.token.TokenKind.{TokenKind}
use Rattle.aw_lex.specs.declared.front.Front.TheVariants as front
use Rattle.aw_lex.specs.Tokens.{tokens_from, tokens_at, with_token, front_of}

-- The bytes of the token before are passed.
pub pass : (at k : ℕ) (bs : List ℕ) → k ≤ length bs → tokens_from at k bs ≡ tokens_from (at + k) 0 (drop k bs)
pass at zero bs h = ap (λ n. tokens_from n 0 bs) (omega arith)
pass at (suc k) [] h = absurd (omega arith)
pass at (suc k) (b ∷ bs) h = pass (at + 1) k bs (omega arith) ∙ ap (λ n. tokens_from n 0 (drop k bs)) (omega arith)

pub blank_step : (at : ℕ) (bs : List ℕ) → 0 < length bs → front_of bs ≡ front.Blank → tokens_from at 0 bs ≡ tokens_from (at + 1) 0 (drop 1 bs)
blank_step at [] h e = absurd (omega arith)
blank_step at (b ∷ bs) h e = ap (λ f. tokens_at f at (λ passed. tokens_from (at + 1) passed bs)) e

pub token_step : (at len : ℕ) (kind : TokenKind) (bs : List ℕ) → 0 < len → len ≤ length bs → front_of bs ≡ front.Token kind len
    → tokens_from at 0 bs ≡ with_token (record { kind = kind; start = at; end = at + len }) (tokens_from (at + len) 0 (drop len bs))
token_step at zero kind bs some h e = absurd (omega arith)
token_step at (suc k) kind [] some h e = absurd (omega arith)
token_step at (suc k) kind (b ∷ bs) some h e =
    let token : Token = record { kind = kind; start = at; end = at + suc k } in
    ap (λ f. tokens_at f at (λ passed. tokens_from (at + 1) passed bs)) e
    ∙ ap (λ n. with_token token (tokens_from (at + 1) n bs)) (omega arith)
    ∙ ap (with_token token) (pass (at + 1) k bs (omega arith))
    ∙ ap (λ n. with_token token (tokens_from n 0 (drop k bs))) (omega arith)

-- tokens that were found before, and those of the rest
abbrev pub behind : List Token → Result (List Token) ℕ → Result (List Token) ℕ
behind found (Ok more) = Ok (found ++ more)
behind found (Err at) = Err at

pub behind_one : (found : List Token) (token : Token) (r : Result (List Token) ℕ) → behind found (with_token token r) ≡ behind (found ++ token ∷ []) r
behind_one found token (Ok more) = ap Ok (sym (append_assoc found (token ∷ []) more))
behind_one found token (Err at) = refl

pub none_left : (at : ℕ) (bs : List ℕ) → length bs ≡ 0 → tokens_from at 0 bs ≡ Ok []
none_left at bs h = ap (tokens_from at 0) (nil_from_length bs h)
