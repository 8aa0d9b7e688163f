-- What a site answers to a message, and what it does where something of it is new.
use Rattle.std.specs.Prelude.{Bool, true, false, not, List, [], ◌∷◌, ◌++◌, Option, None, Some, if◌then◌else◌}
use Rattle.aw_term.specs.Rules.{Grammar}
use Rattle.aw_term.specs.Held.{Held, insert_held, held_of}
use Rattle.aw_store.specs.Equations.{find}
use Rattle.aw_apply.specs.Made.{Call}
use Rattle.aw_apply.specs.Messages.{Kind, Calls, Asks, Tells, Message, Clash, Received, BadName, NotMine, Conflict, Repeat, New}
use Rattle.aw_law_sites.specs.Joint.{called_held}
use Rattle.aw_law_sites.specs.Sites.{Site, Reaction}
use Rattle.aw_law_sites.specs.Asking.{all_mentions, asking}
use Rattle.aw_law_sites.specs.Telling.{tell_back, watches_too}
use Rattle.aw_law_sites.specs.ValidNames.{message_ok}
use Rattle.aw_law_sites.specs.Receiving.{is_mine, add_all, clash, is_repeat}

-- the node is added where it is not held
abbrev pub add_held : Option Held → Call → List Held → List Held
add_held None c hs = insert_held (called_held c) hs
add_held (Some h) c hs = hs

-- A call adds its node and its load, and a tell its equation and its load; then what is wanted is asked for. A question is noted, and answered where
-- the equation is here.
abbrev pub react : Grammar → Site → Kind → Reaction
react g s (Calls c load) =
    let s' = record s { held = add_held (held_of c.node s.held) c s.held; equations = add_all s.equations load } in
    asking g s' [] (c.inherited ++ all_mentions load)
react g s (Asks r from) =
    let sent = tell_back g s (find s.equations r) r from in
    record { site = record s { watches = watches_too s.watches r from; outbox = s.outbox ++ sent }; sent = sent }
react g s (Tells e load) = asking g (record s { equations = add_all s.equations (e ∷ load) }) [] (all_mentions (e ∷ load))

-- what contradicts is told, then what is known already
abbrev pub received_on : Option Clash → Bool → Reaction → Received Reaction
received_on (Some c) known x = Conflict c.kept c.came
received_on None true x = Repeat
received_on None false x = New x

-- the answer to a message: the first that holds. Only New changes the site.
abbrev pub receive : Grammar → Site → Message → Received Reaction
receive g s m =
    if not (message_ok g s.role m) then BadName
    else if not (is_mine g s.role m) then NotMine
    else received_on (clash s m.kind) (is_repeat s m.kind) (react g s m.kind)
