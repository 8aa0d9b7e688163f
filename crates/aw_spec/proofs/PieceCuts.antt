-- Pieces of a line, cut at the first `;`.
use Rattle.std.proofs.Common.{◌≡◌, ℕ, suc, ◌+◌, refl, sym, ◌∙◌, ap, Bool, true, false, cond, List, [], ◌∷◌, ◌++◌, take, drop, Option, Some, None, position, option_map, nat_lt, not, length, arith}
use Rattle.std.proofs.lemmas.Bool.{lt-ltb}
use Rattle.std.proofs.lemmas.Bool.Decides.{nat_tests}
use Rattle.std.specs.List.{position_or_len}
use Rattle.aw_lex.specs.declared.token.Token.{Token}
use Rattle.aw_lex.specs.declared.token.TokenKind.{TokenKind}
use Rattle.aw_lex.specs.declared.token.TokenKind.TheVariants as kinds
use Rattle.aw_grammar.specs.Written.{WrittenChild}
use Rattle.aw_term_reader.specs.Lexemes.{Lexeme, lexeme, lexemes, said, slice}
use Rattle.aw_spec.specs.ReadLine.{is_semicolon, pieces, in_front}
use Rattle.aw_spec.specs.Pieces.{parts_children}

said_semicolon : (kind : TokenKind) (bytes : List ℕ) → is_semicolon (said kind bytes) ≡ parts_children kind
said_semicolon kinds.Name bytes = refl
said_semicolon kinds.Number bytes = refl
said_semicolon kinds.Node bytes = refl
said_semicolon kinds.Text bytes = refl
said_semicolon (kinds.Mark b) bytes = refl

-- the first piece and those behind it, where this is the place of the first `;`
abbrev pub cut_pieces : List ℕ → List Token → Option ℕ → List (List Lexeme)
cut_pieces line ts None = lexemes line ts ∷ []
cut_pieces line ts (Some i) = lexemes line (take i ts) ∷ pieces (lexemes line (drop (suc i) ts))

later_cut : (line : List ℕ) (t : Token) (ts : List Token) (o : Option ℕ) → in_front (lexeme line t) (cut_pieces line ts o) ≡ cut_pieces line (t ∷ ts) (option_map (λ i. suc i) o)
later_cut line t ts None = refl
later_cut line t ts (Some i) = refl

abbrev if_below : ℕ → ℕ → Option ℕ
if_below n k = cond (nat_lt k n) (Some k) None

shifted : (k : ℕ) (b : Bool) → cond b (Some (suc k)) None ≡ option_map (λ i. suc i) (cond b (Some k) None)
shifted k true = refl
shifted k false = refl

one_up : (n k j : ℕ) → j ≡ suc k → if_below (suc n) j ≡ option_map (λ i. suc i) (if_below n k)
one_up n k j e =
    let same : nat_lt (suc k) (suc n) ≡ nat_lt k n = grind (arith, nat_tests) in
    ap (if_below (suc n)) e ∙ ap (λ b. cond b (Some (suc k)) None) same ∙ shifted k (nat_lt k n)

place_step : {X : Type 0} (p : X → Bool) (x : X) (xs : List X) → position p (x ∷ xs) ≡ cond (p x) (Some 0) (option_map (λ i. suc i) (position p xs))
place_step p x xs =
    let k = position_or_len p xs in
    elim (p x) as (λ t. if_below (suc (length xs)) (cond (not t) (1 + k) 0) ≡ cond t (Some 0) (option_map (λ i. suc i) (position p xs))) [
      | true ↦ ap (λ t. cond t (Some 0) None) (lt-ltb 0 (suc (length xs)) (omega arith))
      | false ↦ one_up (length xs) k (1 + k) (omega arith)
    ]

abbrev is_end : Token → Bool
is_end t = parts_children t.kind

pub pieces_by_cut : (line : List ℕ) (ts : List Token) → pieces (lexemes line ts) ≡ cut_pieces line ts (position (λ (t : Token). parts_children t.kind) ts)
pieces_by_cut line [] = refl
pieces_by_cut line (t ∷ ts) =
    let rest = position is_end ts in
    ap (λ b. cond b ([] ∷ pieces (lexemes line ts)) (in_front (lexeme line t) (pieces (lexemes line ts)))) (said_semicolon t.kind (slice line t))
    ∙ elim (parts_children t.kind) as (λ b. cond b ([] ∷ pieces (lexemes line ts)) (in_front (lexeme line t) (pieces (lexemes line ts))) ≡ cut_pieces
    line (t ∷ ts) (cond b (Some 0) (option_map (λ i. suc i) rest))) [
      | true ↦ refl
      | false ↦ ap (in_front (lexeme line t)) (pieces_by_cut line ts) ∙ later_cut line t ts rest
    ]
    ∙ ap (cut_pieces line (t ∷ ts)) (sym (place_step is_end t ts))

-- children that were read before, and those that are left
abbrev pub behind : List WrittenChild → Option (List WrittenChild) → Option (List WrittenChild)
behind children rest = option_map (λ more. children ++ more) rest
