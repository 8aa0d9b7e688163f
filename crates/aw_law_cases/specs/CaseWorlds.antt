-- What is kept of a world and of its events where only some cases count.
use Rattle.std.specs.Prelude.{◌≡◌, ℕ, zero, suc, Bool, List, [], ◌∷◌, ◌++◌, map, Option, None, Some, slice_get, filter, if◌then◌else◌}
use Rattle.aw_term.specs.Rules.{Grammar}
use Rattle.aw_apply.specs.Messages.{Message}
use Rattle.aw_law_sites.specs.Worlds.{World, empty_world, Move, Chooses, Delivers, Reply, step, world_after}
use Rattle.aw_law_nodes.specs.Nodes.{world_replies}
use Rattle.aw_law_cases.specs.Cases.{Cases, of_choice, of_message, keep_site}

-- of which messages of these cases it is noted that they were delivered
abbrev pub keep_marks : Cases → List Message → List Bool → List Bool
keep_marks C [] ds = []
keep_marks C (m ∷ ms) [] = []
keep_marks C (m ∷ ms) (d ∷ ds) = if of_message C m then d ∷ keep_marks C ms ds else keep_marks C ms ds

-- each site, and the messages and choices of these cases in their order
abbrev pub keep_world : Cases → World → World
keep_world C w = record {
  sites = map (keep_site C) w.sites;
  messages = filter (of_message C) w.messages;
  delivered = keep_marks C w.messages w.delivered;
  taken = filter (of_choice C) w.taken;
}

-- how many of the first k messages are of these cases: the number of the next one where there are no others
abbrev pub kept_before : Cases → ℕ → List Message → ℕ
kept_before C zero ms = 0
kept_before C (suc k) [] = 0
kept_before C (suc k) (m ∷ ms) = if of_message C m then suc (kept_before C k ms) else kept_before C k ms

-- a delivery of this message, by the number that it has where there are no other cases
abbrev pub keep_delivery : Cases → World → ℕ → Option Message → List Move
keep_delivery C w k None = []
keep_delivery C w k (Some m) = if of_message C m then Delivers (kept_before C k w.messages) ∷ [] else []

-- a choice or a delivery, where it is of these cases
abbrev pub keep_move : Cases → World → Move → List Move
keep_move C w (Chooses c) = if of_choice C c then Chooses c ∷ [] else []
keep_move C w (Delivers k) = keep_delivery C w k (slice_get w.messages k)

-- each of these events in its turn
abbrev pub keep_moves : Cases → Grammar → World → List Move → List Move
keep_moves C g w [] = []
keep_moves C g w (e ∷ es) = keep_move C w e ++ keep_moves C g (step g w e).world es

-- What a world holds of some cases is the world of their events alone: whatever happens in other cases changes nothing of it, and no message of theirs is
-- needed. So cases can be spread over any number of systems.
abbrev pub CasesDoNotMeet : Grammar → Type 0
CasesDoNotMeet g = (C : Cases) (loads : Bool) (es : List Move) →
    keep_world C (world_after g loads es) ≡ world_after g loads (keep_moves C g (empty_world g loads) es)

-- the replies to those of these events that are of these cases
abbrev pub keep_replies : Cases → Grammar → World → List Move → List Reply
keep_replies C g w [] = []
keep_replies C g w (e ∷ es) = map (λ d. (step g w e).reply) (keep_move C w e) ++ keep_replies C g (step g w e).world es

-- and each of these is replied what it is replied where there are no others
abbrev pub RepliesAreKept : Grammar → Type 0
RepliesAreKept g = (C : Cases) (loads : Bool) (es : List Move) →
    keep_replies C g (empty_world g loads) es ≡ world_replies g (empty_world g loads) (keep_moves C g (empty_world g loads) es)
