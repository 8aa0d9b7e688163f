-- What a site sent at a choice and at a message, and what it answers.
use Rattle.std.specs.Prelude.{◌≡◌, List, [], length}
use Rattle.aw_term.specs.Trees.{Never}
use Rattle.aw_apply.specs.Messages as P
use Rattle.aw_msg.specs.MessageView.{content_of}
use Rattle.aw_law_sites.specs.Choosing.{Chosen, No, Did}
use Rattle.aw_law_sites.specs.Sites.{Reaction}
use Rattle.aw_site.specs.declared.received.Received.{Received}
use Rattle.aw_site.specs.declared.received.Received.TheVariants.{BadName, NotMine, Conflict, Repeat, New}

-- a refusal sends nothing
abbrev pub sent_by : Chosen → List P.Message
sent_by (No a) = []
sent_by (Did x) = x.sent

-- only what is new makes a site send
abbrev pub sent_for : P.Received Reaction → List P.Message
sent_for (P.New x) = x.sent
sent_for _ = []

-- the same answer, with the contents that contradict, and how many messages were sent
abbrev pub IsReceived : Received → P.Received Reaction → Type 0
IsReceived BadName P.BadName = Unit {0}
IsReceived NotMine P.NotMine = Unit {0}
IsReceived (Conflict kept came) (P.Conflict k c) = (content_of kept ≡ k) × (content_of came ≡ c)
IsReceived Repeat P.Repeat = Unit {0}
IsReceived (New n) (P.New x) = n ≡ length x.sent
IsReceived _ _ = Never
