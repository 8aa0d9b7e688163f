-- What the undivided run tells: one line for each choice, and then the artifacts; and the worklist of a configuration.
use Rattle.std.specs.Prelude.{ℕ, suc, List, [], ◌∷◌, ◌++◌, length, codes, Option, None, Some, nat_eq, if◌then◌else◌}
use Rattle.std.specs.Fmt.{decimal}
use Rattle.aw_term.specs.Names.{Ref}
use Rattle.aw_term.specs.Rules.{Rule, Grammar, get}
use Rattle.aw_term.specs.Matching.{match_all}
use Rattle.aw_term.specs.Configs.{State, Pending, Done, Row, Config}
use Rattle.aw_term.specs.Choices.{Choice, Start, Develop, Answer, Outcome, Refused, Starts, Takes, after_guard, answer, after}
use Rattle.aw_term.specs.Artifacts.{Words, Item, node_text, answer_text, artifact_text, item_text}

-- `start visit 1`, `choose visit#1 admit`
abbrev pub choice_text : Words → Choice → List ℕ
choice_text w (Start s k) = codes "start " ++ (get [] w.sorts s ++ (codes " " ++ decimal k))
choice_text w (Develop n r args) = codes "choose " ++ (node_text w n ++ (codes " " ++ get [] w.rules r))

-- `start visit 1: taken`
abbrev pub answer_line : Words → Choice → Answer Ref → List ℕ
answer_line w x a = choice_text w x ++ (codes ": " ++ (answer_text w a ++ codes "\n"))

-- the line of each choice, each answered over the configuration that the choices before it leave
abbrev pub answer_lines : Words → Grammar → Config → List Choice → List ℕ
answer_lines w g c [] = []
answer_lines w g c (x ∷ xs) = answer_line w x (answer g c x) ++ answer_lines w g (after g c x) xs

-- the configuration that all choices leave, those refused without effect
abbrev pub after_all : Grammar → Config → List Choice → Config
after_all g c [] = c
after_all g c (x ∷ xs) = after_all g (after g c x) xs

-- `artifacts 2` and the rows
abbrev pub artifacts : Words → Config → List ℕ
artifacts w c = codes "artifacts " ++ (decimal (length c) ++ (codes "\n" ++ artifact_text w c))

-- what is written for these choices: their lines, and then the artifacts
abbrev pub plain_text : Words → Grammar → List Choice → List ℕ
plain_text w g xs = answer_lines w g [] xs ++ artifacts w (after_all g [] xs)

-- the refusal that a choice leads to, over values or over references
abbrev pub refusal_of : {A R : Type 0} → Outcome A R → Option (Answer R)
refusal_of (Refused a) = Some a
refusal_of Starts = None
refusal_of (Takes rule bound) = None

-- rule number i at an open row: it stands as its guard says, its arguments aside
abbrev pub item_at : Row → ℕ → Rule → Item
item_at q i rule = record { node = q.node; rule = i; refusal = refusal_of (after_guard q.node rule (match_all 1 rule.patterns q.inherited)) }

-- an item for each of these rules that is of the row's sort; the first has number i
abbrev pub rule_items : Row → ℕ → List Rule → List Item
rule_items q i [] = []
rule_items q i (rule ∷ rules) = if nat_eq rule.sort q.sort then item_at q i rule ∷ rule_items q (suc i) rules else rule_items q (suc i) rules

-- none at a developed row
abbrev pub row_items : Grammar → State → Row → List Item
row_items g Pending q = rule_items q 0 g.rules
row_items g (Done r args) q = []

-- the worklist: for each open node in order an item for each rule of its sort, by position
abbrev pub worklist : Grammar → Config → List Item
worklist g [] = []
worklist g (q ∷ qs) = row_items g q.state q ++ worklist g qs

-- a line for each item
abbrev pub item_lines : Words → List Item → List ℕ
item_lines w [] = []
item_lines w (i ∷ is) = item_text w i ++ (codes "\n" ++ item_lines w is)
