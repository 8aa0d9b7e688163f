-- What a world tells of its events: a line for each event, and then one for each message that it sent.
use Rattle.std.specs.Prelude.{ℕ, zero, suc, List, [], ◌∷◌, ◌++◌, map, length, codes, None, Some, drop}
use Rattle.std.specs.Fmt.{decimal}
use Rattle.aw_term.specs.Names.{Ref}
use Rattle.aw_term.specs.Rules.{Grammar, get}
use Rattle.aw_term.specs.Choices.{Answer, NotHere}
use Rattle.aw_term.specs.Artifacts.{Words, listed, joined, node_text, ref_text}
use Rattle.aw_term.specs.Runs.{answer_line, item_lines}
use Rattle.aw_store.specs.Equations.{Equation}
use Rattle.aw_store.specs.BodyTexts.{body_text}
use Rattle.aw_apply.specs.Messages.{Kind, Calls, Asks, Tells, Message}
use Rattle.aw_law_sites.specs.Worlds.{World, site_at, Move, Chooses, Delivers, Reply, Answered, IsNew, Again, NoMessage, Stepped, deliver, step, undelivered}
use Rattle.aw_law_sites.specs.Worklists.{site_worklist}

-- `visit#1:p1 = "Ada"`
abbrev pub equation_text : Words → Equation → List ℕ
equation_text w e = ref_text w e.left ++ (codes " = " ++ body_text w e.body)

-- nothing where the load is empty
abbrev pub load_text : Words → List Equation → List ℕ
load_text w [] = []
load_text w (e ∷ es) = codes " with " ++ joined (codes "; ") (map (equation_text w) (e ∷ es))

-- `call visit#1/admit.1 (visit#1:p2)`, `ask visit#1:p2 from lab`, `tell visit#1:p1 = "Ada"`
abbrev pub kind_text : Words → Kind → List ℕ
kind_text w (Calls c load) = codes "call " ++ (node_text w c.node ++ (codes " (" ++ (listed (map (ref_text w) c.inherited) ++ (codes ")" ++ load_text w load))))
kind_text w (Asks r from) = codes "ask " ++ (ref_text w r ++ (codes " from " ++ get [] w.roles from))
kind_text w (Tells e load) = codes "tell " ++ (equation_text w e ++ load_text w load)

-- `sent 1 to lab ask visit#1/admit.1:r1 from clinic`
abbrev pub sent_line : Words → ℕ → Message → List ℕ
sent_line w k m = codes "sent " ++ (decimal k ++ (codes " to " ++ (get [] w.roles m.to ++ (codes " " ++ (kind_text w m.kind ++ codes "\n")))))

-- the messages from number k on
abbrev pub sent_lines : Words → ℕ → List Message → List ℕ
sent_lines w k [] = []
sent_lines w k (m ∷ ms) = sent_line w k m ++ sent_lines w (suc k) ms

-- `deliver 0: new`
abbrev pub deliver_line : ℕ → Reply → List ℕ
deliver_line k IsNew = codes "deliver " ++ (decimal k ++ codes ": new\n")
deliver_line k Again = codes "deliver " ++ (decimal k ++ codes ": again\n")
deliver_line k NoMessage = codes "deliver " ++ (decimal k ++ codes ": no message\n")
deliver_line k (Answered a) = []

-- the answer that a reply has
abbrev pub answered : Reply → Answer Ref
answered (Answered a) = a
answered _ = NotHere

-- the messages that came after the first n
abbrev pub sent_since : Words → ℕ → World → List ℕ
sent_since w n v = sent_lines w n (drop n v.messages)

-- the line of the event itself
abbrev pub move_line : Words → Move → Reply → List ℕ
move_line w (Chooses c) reply = answer_line w c (answered reply)
move_line w (Delivers k) reply = deliver_line k reply

-- the lines of one event, from the world before it
abbrev pub move_lines : Words → World → Move → Stepped → List ℕ
move_lines w v e x = move_line w e x.reply ++ sent_since w (length v.messages) x.world

-- the lines of these events in turn
abbrev pub run_lines : Words → Grammar → World → List Move → List ℕ
run_lines w g v [] = []
run_lines w g v (e ∷ es) = move_lines w v e (step g v e) ++ run_lines w g (step g v e).world es

-- the lines of at most n deliveries, and how many there were, counted from d
abbrev pub settle_lines : ℕ → ℕ → Words → Grammar → World → List ℕ
settle_lines zero d w g v = codes "settled " ++ (decimal d ++ codes "\n")
settle_lines (suc n) d w g v =
    elim (undelivered v) [
      | None ↦ codes "settled " ++ (decimal d ++ codes "\n")
      | Some k ↦ move_lines w v (Delivers k) (deliver g v k) ++ settle_lines n (suc d) w g (deliver g v k).world
    ]

-- `list lab`, and a line for each item of its worklist
abbrev pub list_lines : Words → Grammar → World → ℕ → List ℕ
list_lines w g v role = codes "list " ++ (get [] w.roles role ++ (codes "\n" ++ item_lines w (site_worklist g (site_at v role).equations (site_at v role).held)))
