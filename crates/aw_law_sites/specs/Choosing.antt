-- A choice at a site: a refusal, or what it leads to.
use Rattle.std.specs.Prelude.{ℕ, List, [], ◌∷◌, ◌++◌, map}
use Rattle.aw_term.specs.Names.{Node, Ref}
use Rattle.aw_term.specs.Rules.{Ground, Grammar}
use Rattle.aw_term.specs.Configs.{Done}
use Rattle.aw_term.specs.Choices.{Choice, Start, Develop, Answer, NotHere, Taken, Outcome, Refused, Starts, Takes}
use Rattle.aw_term.specs.Held.{insert_held, insert_all, mark}
use Rattle.aw_apply.specs.Made.{Making, made}
use Rattle.aw_law_sites.specs.Joint.{root_held, Joint, joint_outcome}
use Rattle.aw_law_sites.specs.Sites.{Site, Reaction, silently}
use Rattle.aw_law_sites.specs.Asking.{all_mentions, all_inherited, asking}
use Rattle.aw_law_sites.specs.Telling.{tells, calls_out, calls_in}

-- the nodes and equations of a site
abbrev pub joint_of : Site → Joint
joint_of s = record { held = s.held; equations = s.equations }

-- what a choice leads to, by what this site holds
abbrev pub outcome : Grammar → Site → Choice → Outcome Ref Ref
outcome g s c = joint_outcome (joint_of s) g c

-- a refusal, or what the site does
pub data Chosen : Type 0 where
  No : (answer : Answer Ref) → Chosen
  Did : (reaction : Reaction) → Chosen

-- the answer to a choice
abbrev pub answer_to : Chosen → Answer Ref
answer_to (No a) = a
answer_to (Did x) = Taken

-- A taken rule: the equations are added, the node is done, the children of this role are added as nodes; a call goes out for each child of another
-- role, a tell for each new equation that is watched, and then what is wanted is asked for.
abbrev pub develop_site : Grammar → Site → Choice → Node → ℕ → List Ground → Making → Reaction
develop_site g s c n r args m =
    let own = calls_in g s.role m.calls in
    let s' = record s { held = insert_all own (map (mark n (Done r args)) s.held); choices = s.choices ++ c ∷ []; equations = s.equations ++ m.equations } in
    asking g s' (calls_out g s' m.calls ++ tells g s' m.equations) (all_mentions m.equations ++ all_inherited own)

-- a taken start adds its node
abbrev pub start_site : Site → ℕ → ℕ → Site
start_site s st k = record s { held = insert_held (root_held st k) s.held; choices = s.choices ++ Start st k ∷ [] }

-- the reaction, where the choice is taken
abbrev pub choose_on : Grammar → Site → Choice → Outcome Ref Ref → Chosen
choose_on g s c (Refused a) = No a
choose_on g s (Start st k) Starts = Did (silently (start_site s st k))
choose_on g s (Develop n r args) Starts = No NotHere
choose_on g s (Start st k) (Takes rule bound) = No NotHere
choose_on g s (Develop n r args) (Takes rule bound) = Did (develop_site g s (Develop n r args) n r args (made n r rule args bound))

-- a choice at its home
abbrev pub choose : Grammar → Site → Choice → Chosen
choose g s c = choose_on g s c (outcome g s c)
