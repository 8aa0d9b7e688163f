-- What a site does at last: it asks for references and sends messages.
use Rattle.std.specs.Prelude.{◌≡◌, List, ◌++◌, map}
use Rattle.aw_term.specs.Names.{Ref}
use Rattle.aw_term.specs.Rules.{Grammar}
use Rattle.aw_apply.specs.Messages.{Message}
use Rattle.aw_msg.specs.MessageView.{message_of}
use Rattle.aw_law_sites.specs.Asking.{asked_too}
use Rattle.aw_law_sites.specs.Sites.{Site, Reaction}
use Rattle.aw_site.specs.declared.plan.Plan.{Plan}

-- the site asks for these references, and sends these messages
abbrev pub doing : Site → List Ref → List Message → Reaction
doing s asked sent = record { site = record s { asked = asked_too s.asked asked; outbox = s.outbox ++ sent }; sent = sent }

-- it does so as planned
abbrev pub doing_planned : Grammar → Site → Plan → Reaction
doing_planned g s p = doing s p.wanted.items (map (message_of g) p.sent.items)

-- this is what a site does that has done all else
abbrev pub IsPlanned : Grammar → Site → Reaction → Plan → Type 0
IsPlanned g s x p = x ≡ doing_planned g s p
