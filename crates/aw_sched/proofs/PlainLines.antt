-- Lines whose bytes tell at once what they give.
use Rattle.std.proofs.Common.{◌≡◌, ℕ, ◌+◌, ◌-◌, ◌≤◌, suc, refl, sym, ap, ◌∙◌, subst, List, [], ◌∷◌, ◌++◌, take, drop, length, arith, Some, codes, append-nil}
use Rattle.std.proofs.Math.Seq.{drop-cons}
use Rattle.std.proofs.lemmas.List.{length-drop, take_all}
use Rattle.std.proofs.lemmas.Slice.Eq.{HasBytesAt, text_from_reads}
use Rattle.aw_spelling.specs.Spelling.{number_of}
use Rattle.aw_term_reader.specs.Lexemes.{Name, Number}
use Rattle.aw_term_reader.proofs.SaysTokens.{Lexes, lexes_blank, lexes_name, lexes_nothing, lexes_number}
use Rattle.aw_typed.specs.Types.{Types}
use Rattle.aw_grammar.specs.Declarations.{Declarations}
use Rattle.aw_sched.specs.Events.{Delivers, Settles}
use Rattle.aw_sched.specs.Schedules.{Gives, read_line}
use Rattle.aw_sched.proofs.LexedLines.{lexed_line}

-- A line whose bytes are those of `settle`.
pub settle_gives : (t : Types) (d : Declarations) (line : List ℕ) → length line ≡ 6 → HasBytesAt line 0 (codes "settle") → read_line t d line ≡ Gives Settles
settle_gives t d line len bytes = ap (read_line t d) (text_from_reads line (codes "settle") len bytes)

-- A line `deliver `, and then a number and nothing else.
deliver_lexes : (ds : List ℕ) (n : ℕ) → number_of ds ≡ Some n → Lexes (codes "deliver " ++ ds) (Name (codes "deliver") ∷ Number n ∷ [])
deliver_lexes ds n e =
    let said : Lexes ds (Number n ∷ []) = subst (λ bs. Lexes bs (Number n ∷ [])) (append-nil ds) (lexes_number ds n [] [] e tt lexes_nothing) in
    lexes_name (codes "deliver") (32 ∷ ds) (Number n ∷ []) refl refl (lexes_blank ds (Number n ∷ []) said)

number_gives : (t : Types) (d : Declarations) (ds : List ℕ) (n : ℕ) → number_of ds ≡ Some n → read_line t d (codes "deliver " ++ ds) ≡ Gives (Delivers n)
number_gives t d ds n e = lexed_line t d (codes "deliver " ++ ds) (Name (codes "deliver") ∷ Number n ∷ []) refl (deliver_lexes ds n e)

-- bytes that stand from a place on, and what is behind them
behind : (s p : List ℕ) (i : ℕ) → i + length p ≤ length s → HasBytesAt s i p → drop i s ≡ p ++ drop (i + length p) s
behind s [] i within h = ap (λ k. drop k s) (omega arith)
behind s (c ∷ p) i within h =
    drop-cons s i 0 (omega arith)
    ∙ (λ k. h.0 k ∷ behind s p (suc i) (omega arith) h.1 k)
    ∙ ap (λ k. c ∷ (p ++ drop k s)) (omega arith)

-- The same, where the bytes are looked at one by one.
pub deliver_gives : (t : Types) (d : Declarations) (line : List ℕ) (n : ℕ) → 8 ≤ length line → HasBytesAt line 0 (codes "deliver ")
    → number_of (take (length line - 8) (drop 8 line)) ≡ Some n → read_line t d line ≡ Gives (Delivers n)
deliver_gives t d line n within bytes e =
    let all : take (length line - 8) (drop 8 line) ≡ drop 8 line = take_all (length line - 8) (drop 8 line) (omega (arith, length-drop 8 line)) in
    ap (read_line t d) (behind line (codes "deliver ") 0 within bytes) ∙ number_gives t d (drop 8 line) n (ap number_of (sym all) ∙ e)
