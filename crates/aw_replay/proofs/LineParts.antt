-- Lines of events, put together from their parts.
use Rattle.std.proofs.Common.{◌≡◌, ℕ, zero, suc, ◌-◌, ◌≤◌, arith, List, ◌++◌, length, drop, map, codes, ap, sym, ◌∙◌, refl}
use Rattle.std.specs.Prelude.{Option, Some, None}
use Rattle.std.specs.Fmt.{decimal}
use Rattle.aw_term.specs.Rules.{Grammar}
use Rattle.aw_term.specs.Artifacts.{Words}
use Rattle.aw_term.specs.Choices.{Choice}
use Rattle.aw_term.specs.Runs.{answer_line}
use Rattle.aw_grammar.specs.declared.grammar.Grammar as G
use Rattle.aw_grammar.specs.GrammarOf.{grammar_of, words_of}
use Rattle.aw_law_sites.specs.Worlds as V
use Rattle.aw_law_sites.specs.Worlds.{settle, deliver, undelivered}
use Rattle.aw_law_sites.specs.Transcripts.{deliver_line, sent_lines, answered, move_lines, settle_lines}
use Rattle.aw_msg.specs.declared.message.Message.{Message}
use Rattle.aw_msg.specs.MessageView.{message_of}
use Rattle.aw_law_worlds.proofs.Settling.{settle_more}

pub told_delivery : (c a d : G.Grammar) → c ≡ a → a ≡ d → (k : ℕ) (r : V.Reply) (v : V.World) (x : V.Stepped) (n : ℕ) (ms : List Message) →
    r ≡ x.reply → x.world.messages ≡ map (message_of (grammar_of a)) ms → length v.messages ≡ n
    → deliver_line k r ++ sent_lines (words_of c) n (drop n (map (message_of (grammar_of c)) ms)) ≡ move_lines (words_of d) v (V.Delivers k) x
told_delivery c a d e1 e2 k r v x n ms er em en =
    let ew : words_of c ≡ words_of d = ap words_of (e1 ∙ e2) in
    let es : map (message_of (grammar_of c)) ms ≡ x.world.messages = ap (λ (g : G.Grammar). map (message_of (grammar_of g)) ms) e1 ∙ sym em in
    let ne : n ≡ length v.messages = sym en in
    λ i. deliver_line k (er i) ++ sent_lines (ew i) (ne i) (drop (ne i) (es i))

pub told_choice : (c a d : G.Grammar) → c ≡ a → a ≡ d → (y : Choice) (r : V.Reply) (v : V.World) (x : V.Stepped) (n : ℕ) (ms : List Message) →
    r ≡ x.reply → x.world.messages ≡ map (message_of (grammar_of a)) ms → length v.messages ≡ n
    → answer_line (words_of c) y (answered r) ++ sent_lines (words_of c) n (drop n (map (message_of (grammar_of c)) ms)) ≡ move_lines (words_of d) v (V.Chooses y) x
told_choice c a d e1 e2 y r v x n ms er em en =
    let ew : words_of c ≡ words_of d = ap words_of (e1 ∙ e2) in
    let es : map (message_of (grammar_of c)) ms ≡ x.world.messages = ap (λ (g : G.Grammar). map (message_of (grammar_of g)) ms) e1 ∙ sym em in
    let ne : n ≡ length v.messages = sym en in
    λ i. answer_line (ew i) y (answered (er i)) ++ sent_lines (ew i) (ne i) (drop (ne i) (es i))

abbrev lines_by : ℕ → ℕ → Words → Grammar → V.World → Option ℕ → List ℕ
lines_by n d w g v None = codes "settled " ++ (decimal d ++ codes "\n")
lines_by n d w g v (Some k) = move_lines w v (V.Delivers k) (deliver g v k) ++ settle_lines n (suc d) w g (deliver g v k).world

-- the lines of one delivery, and of those behind it
pub lines_more : (w : Words) (g : Grammar) (v : V.World) (b m n k : ℕ) → undelivered (settle m g v) ≡ Some k → n ≡ suc m → n ≤ b
    → move_lines w (settle m g v) (V.Delivers k) (deliver g (settle m g v) k) ++ settle_lines (b - n) n w g (settle n g v) ≡ settle_lines (b - m) m w g (settle m g v)
lines_more w g v b m n k e en l =
    let eb : suc (b - n) ≡ b - m = omega (arith, en, l) in
    let es : settle n g v ≡ (deliver g (settle m g v) k).world = ap (λ j. settle j g v) en ∙ settle_more g m v k e in
    ap (λ t. move_lines w (settle m g v) (V.Delivers k) (deliver g (settle m g v) k) ++ t) (λ i. settle_lines (b - n) (en i) w g (es i))
    ∙ ap (lines_by (b - n) m w g (settle m g v)) (sym e)
    ∙ ap (λ j. settle_lines j m w g (settle m g v)) eb

-- none is left
pub lines_end : (w : Words) (g : Grammar) (v : V.World) (n d : ℕ) → undelivered v ≡ None → settle_lines n d w g v ≡ codes "settled " ++ (decimal d ++ codes "\n")
lines_end w g v zero d e = refl
lines_end w g v (suc n) d e = ap (lines_by n d w g v) e
