-- What a site sends for what it made, or for what came, and what it then asks for.
use Rattle.std.specs.Prelude.{List, ◌++◌, map, filter}
use Rattle.aw_term.specs.Names.{Ref}
use Rattle.aw_term.specs.Rules.{Grammar}
use Rattle.aw_store.specs.Equations.{Equation}
use Rattle.aw_apply.specs.Made.{Call}
use Rattle.aw_apply.specs.Messages.{Message}
use Rattle.aw_law_sites.specs.Asking.{all_mentions, all_inherited, is_wanted, ask_message}
use Rattle.aw_law_sites.specs.InOrder.{in_order}
use Rattle.aw_law_sites.specs.Sites.{Site}
use Rattle.aw_law_sites.specs.Telling.{tells, calls_out, calls_in}

-- what a site asks for of these references, in order
abbrev pub wanted_of : Grammar → Site → List Ref → List Ref
wanted_of g s rs = filter (is_wanted g s) (in_order rs)

-- a question for each of these references
abbrev pub asks_for : Grammar → Site → List Ref → List Message
asks_for g s rs = map (ask_message g s.role) rs

-- the references that new equations and the new nodes of this role mention
abbrev pub made_mentions : Grammar → Site → List Equation → List Call → List Ref
made_mentions g s es cs = all_mentions es ++ all_inherited (calls_in g s.role cs)

-- what a site that holds these new equations and children sends before it asks
abbrev pub told : Grammar → Site → List Equation → List Call → List Message
told g s es cs = calls_out g s cs ++ tells g s es
