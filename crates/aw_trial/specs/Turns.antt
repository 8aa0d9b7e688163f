-- The turns of a trial: each starts a case, makes a choice or delivers a message, as numbers are drawn.
use Rattle.std.specs.Prelude.{ℕ, zero, suc, ◌+◌, Bool, true, false, List, [], ◌∷◌, ◌++◌, length, Option, Some, None, slice_get, nat_eq, nat_le, if◌then◌else◌}
use Rattle.aw_term.specs.Trees.{Num, Made, Nil}
use Rattle.aw_term.specs.Names.{Node}
use Rattle.aw_term.specs.Rules.{Ground, Rule, Grammar, get, sort_of}
use Rattle.aw_term.specs.Choices.{Choice, Start, Develop, is_taken}
use Rattle.aw_choice.specs.Events as E
use Rattle.aw_choice.specs.Events.{Event}
use Rattle.aw_standing.specs.Records.{rules_of}
use Rattle.aw_law_sites.specs.Worlds as V
use Rattle.aw_law_sites.specs.Worlds.{World, Reply, Stepped, gather, step}
use Rattle.aw_world.specs.Opened.{open_nodes}
use Rattle.aw_trial.specs.Draws.{next_below, drew}
use Rattle.aw_trial.specs.declared.tally.Tally.{Tally}

-- how far a trial came: its world, its tally, and the events so far
pub record State : Type 0 where
  pub world : World
  pub tally : Tally
  pub events : List Event

-- one, where it is so
abbrev pub one_if : Bool → ℕ
one_if true = 1
one_if false = 0

-- a choice was taken
abbrev pub replies_taken : Reply → Bool
replies_taken (V.Answered a) = is_taken a
replies_taken V.IsNew = false
replies_taken V.Again = false
replies_taken V.NoMessage = false

-- a message was not new
abbrev pub replies_again : Reply → Bool
replies_again V.Again = true
replies_again (V.Answered a) = false
replies_again V.IsNew = false
replies_again V.NoMessage = false

-- ---- a case is started
-- the start is counted
abbrev pub counts_start : Tally → Tally
counts_start t = record t { starts = suc t.starts }

-- the case is one of the first sort, and its number is that of the starts before
abbrev pub start_case : Grammar → State → State
start_case g s = record {
  world = (step g s.world (V.Chooses (Start 0 s.tally.starts))).world;
  tally = counts_start s.tally;
  events = s.events ++ E.Chooses (Start 0 s.tally.starts) ∷ [];
}

-- ---- a choice is made
-- the choice is counted, and once more where it was taken
abbrev pub counts_choice : Tally → Reply → Tally
counts_choice t r = record t { choices = suc t.choices; taken = t.taken + one_if (replies_taken r) }

-- how far a trial came once a choice was answered so
abbrev pub chosen : State → Choice → Stepped → State
chosen s c x = record { world = x.world; tally = counts_choice s.tally x.reply; events = s.events ++ E.Chooses c ∷ [] }

-- the choice is made, and it is counted
abbrev pub make_choice : Grammar → Choice → State → State
make_choice g c s = chosen s c (step g s.world (V.Chooses c))

-- how many parameters a rule has
-- (0 where there is no such rule, which is not drawn)
abbrev pub params_of : Option Rule → ℕ
params_of None = 0
params_of (Some r) = r.params

-- where a rule has a parameter, its argument is a number below 100
abbrev pub argument_for : ℕ → Tally → List Ground
argument_for zero t = []
argument_for (suc p) t = Made (Num (next_below 100 t)) Nil ∷ []

-- the tally once the argument is drawn
abbrev pub drew_argument : ℕ → Tally → Tally
drew_argument zero t = t
drew_argument (suc p) t = drew t

-- the argument is drawn, and the rule chosen
abbrev pub develop : Grammar → Node → ℕ → State → State
develop g n r s =
    make_choice g (Develop n r (argument_for (params_of (slice_get g.rules r)) s.tally))
    (record s { tally = drew_argument (params_of (slice_get g.rules r)) s.tally })

-- the numbers of all rules of a sort, in order
abbrev pub rules_for : Grammar → Option ℕ → List ℕ
rules_for g None = []
rules_for g (Some s) = rules_of s 0 g.rules

-- one of these rules is drawn for the node; nothing is done where there is none
abbrev pub among_rules : Grammar → Node → List ℕ → State → State
among_rules g n [] s = s
among_rules g n (r ∷ rs) s = develop g n (get r (r ∷ rs) (next_below (suc (length rs)) s.tally)) (record s { tally = drew s.tally })

-- one of the rules of its sort
abbrev pub at_node : Grammar → Node → State → State
at_node g n s = among_rules g n (rules_for g (sort_of g n)) s

-- one of these nodes is drawn, and then a rule for it; nothing is done where there is none
abbrev pub among_nodes : Grammar → List Node → State → State
among_nodes g [] s = s
among_nodes g (n ∷ ns) s = at_node g (get n (n ∷ ns) (next_below (suc (length ns)) s.tally)) (record s { tally = drew s.tally })

-- one of the open nodes of all sites, in order
abbrev pub choose_some : Grammar → State → State
choose_some g s = among_nodes g (open_nodes (gather s.world.sites)) s

-- ---- a message is delivered
-- it is counted where it was not new
abbrev pub counts_delivery : Tally → Reply → Tally
counts_delivery t r = record t { repeats = t.repeats + one_if (replies_again r) }

-- how far a trial came once message k, which was drawn, was delivered and answered so
abbrev pub delivered : State → ℕ → Stepped → State
delivered s k x = record { world = x.world; tally = counts_delivery (drew s.tally) x.reply; events = s.events ++ E.Delivers k ∷ [] }

-- one of this many messages is drawn; nothing is done where there is none
abbrev pub among_messages : Grammar → ℕ → State → State
among_messages g zero s = s
among_messages g (suc m) s = delivered s (next_below (suc m) s.tally) (step g s.world (V.Delivers (next_below (suc m) s.tally)))

-- one of those that were sent so far
abbrev pub deliver_some : Grammar → State → State
deliver_some g s = among_messages g (length s.world.messages) s

-- ---- turns
-- what is drawn of 8 says what is done: 0 starts a case, 1 to 3 make a choice, and 4 to 7 deliver a message
abbrev pub turn_on : Grammar → ℕ → State → State
turn_on g d s = if nat_eq d 0 then start_case g s else if nat_le d 3 then choose_some g s else deliver_some g s

-- a number below 8 is drawn, and what it says is done
abbrev pub turn : Grammar → State → State
turn g s = turn_on g (next_below 8 s.tally) (record s { tally = drew s.tally })

-- so many turns
abbrev pub turns : ℕ → Grammar → State → State
turns zero g s = s
turns (suc n) g s = turn g (turns n g s)
