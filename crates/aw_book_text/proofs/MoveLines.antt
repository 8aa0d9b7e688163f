-- The lines of moves, one behind the other.
use Rattle.std.specs.Prelude.{codes}
use Rattle.std.proofs.Common.{◌≡◌, ℕ, ◌+◌, ◌<◌, Bool, true, false, cond, List, [], ◌∷◌, ◌++◌, length, take, drop, map, get_or, refl, sym, ap, ◌∙◌, append_assoc, append-nil}
use Rattle.std.proofs.lemmas.List.{take_more, map-append, take-append-drop}
use Rattle.aw_choice.specs.Events.{Event}
use Rattle.aw_law_sites.specs.Worlds as V
use Rattle.aw_sched_writer.specs.EventTexts.{event_line, events_text}
use Rattle.aw_sched_writer.specs.Moves.{asked_by, move_line, settled_by, joined_text}
use Rattle.aw_term.specs.Artifacts.{Words}
use Rattle.aw_world.specs.MoveView.{move_of}
use Rattle.aw_world.specs.declared.moves.Move.{Move}

-- the lines of these moves of the program
abbrev pub lines_of : Words → List Move → List ℕ
lines_of w moves = events_text w (map asked_by (map move_of moves))

pub events-append : (w : Words) (xs ys : List Event) → events_text w (xs ++ ys) ≡ events_text w xs ++ events_text w ys
events-append w [] ys = refl
events-append w (x ∷ xs) ys = ap (λ (t : List ℕ). event_line w x ++ t) (events-append w xs ys) ∙ sym (append_assoc (event_line w x) (events_text w xs) (events_text w ys))

pub lines-append : (w : Words) (xs ys : List Move) → lines_of w (xs ++ ys) ≡ lines_of w xs ++ lines_of w ys
lines-append w xs ys =
    ap (λ (es : List V.Move). events_text w (map asked_by es)) (map-append move_of xs ys)
    ∙ (ap (events_text w) (map-append asked_by (map move_of xs) (map move_of ys)) ∙ events-append w (map asked_by (map move_of xs)) (map asked_by (map move_of ys)))

-- of the first moves, and one more
pub lines-more : (w : Words) (xs : List Move) (i : ℕ) (x : Move) → i < length xs → x ≡ get_or xs i x → lines_of w (take (i + 1) xs) ≡ lines_of w (take i xs) ++ move_line w (move_of x)
lines-more w xs i x l at =
    ap (lines_of w) (take_more xs i x l ∙ ap (λ (y : Move). take i xs ++ y ∷ []) (sym at))
    ∙ (lines-append w (take i xs) (x ∷ []) ∙ ap (λ (t : List ℕ). lines_of w (take i xs) ++ t) (append-nil (move_line w (move_of x))))

-- and those behind it
pub lines-rest : (w : Words) (xs : List Move) (i : ℕ) → lines_of w (take i xs) ++ lines_of w (drop i xs) ≡ lines_of w xs
lines-rest w xs i = sym (lines-append w (take i xs) (drop i xs)) ∙ ap (lines_of w) (take-append-drop i xs)

end-line : (w : Words) (settled : Bool) → events_text w (settled_by settled) ≡ cond settled (codes "settle\n") []
end-line w true = refl
end-line w false = refl

-- the whole text, from its parts
pub whole-text : (w : Words) (front : List ℕ) (moves : List Move) (settled : Bool) → ((front ++ codes "schedule 2\n") ++ lines_of w moves) ++ cond settled (codes "settle\n") []
    ≡ joined_text w front (map move_of moves) settled
whole-text w front moves settled =
    let line = codes "schedule 2\n" in
    let lines = lines_of w moves in
    let end = events_text w (settled_by settled) in
    ap (λ (t : List ℕ). ((front ++ line) ++ lines) ++ t) (sym (end-line w settled))
    ∙ (append_assoc (front ++ line) lines end
    ∙ (append_assoc front line (lines ++ end)
    ∙ ap (λ (t : List ℕ). front ++ (line ++ t)) (sym (events-append w (map asked_by (map move_of moves)) (settled_by settled)))))
