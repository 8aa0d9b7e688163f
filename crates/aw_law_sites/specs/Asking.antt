-- Asks: for each reference of another role that is mentioned, has no equation here and was not asked for, one question to its home.
use Rattle.std.specs.Prelude.{ℕ, Bool, not, ◌&&◌, ◌||◌, List, [], ◌∷◌, ◌++◌, map, nat_eq, filter, is_none}
use Rattle.aw_term.specs.Names.{Ref}
use Rattle.aw_term.specs.Rules.{Grammar}
use Rattle.aw_term.specs.Held.{Held}
use Rattle.aw_store.specs.Equations.{Equation, find, mentions}
use Rattle.aw_apply.specs.Messages.{Message, Asks}
use Rattle.aw_law_sites.specs.Homes.{home}
use Rattle.aw_law_sites.specs.Sites.{Site, Reaction}
use Rattle.aw_law_sites.specs.InOrder.{in_order, has_ref}

-- the references that stand in the bodies of these equations
abbrev pub all_mentions : List Equation → List Ref
all_mentions [] = []
all_mentions (e ∷ es) = mentions e.body ++ all_mentions es

-- the references that these nodes inherited
abbrev pub all_inherited : List Held → List Ref
all_inherited [] = []
all_inherited (h ∷ hs) = h.inherited ++ all_inherited hs

-- another role's, without an equation here, and not asked for
abbrev pub is_wanted : Grammar → Site → Ref → Bool
is_wanted g s r = not (nat_eq (home g r.node) s.role) && (is_none (find s.equations r) && not (s.asked r))

-- the question of a role for a reference
abbrev pub ask_message : Grammar → ℕ → Ref → Message
ask_message g role r = record { to = home g r.node; kind = Asks r role }

-- these references were asked for, too
abbrev pub asked_too : (Ref → Bool) → List Ref → Ref → Bool
asked_too asked rs r = asked r || has_ref r rs

-- The site sends these messages, and then asks for what is wanted of these references, in their order.
abbrev pub asking : Grammar → Site → List Message → List Ref → Reaction
asking g s first rs =
    let wanted = filter (is_wanted g s) (in_order rs) in
    let sent = first ++ map (ask_message g s.role) wanted in
    record { site = record s { asked = asked_too s.asked wanted; outbox = s.outbox ++ sent }; sent = sent }
