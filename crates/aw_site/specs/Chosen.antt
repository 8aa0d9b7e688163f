-- What a choice makes a site do, by the site that has done all but asking and sending.
use Rattle.std.specs.Prelude.{◌≡◌}
use Rattle.aw_term.specs.Names.{Ref}
use Rattle.aw_term.specs.Rules.{Grammar}
use Rattle.aw_term.specs.Choices.{Choice, Outcome}
use Rattle.aw_choice.specs.ChoiceView.{answer_of}
use Rattle.aw_law_sites.specs.Choosing.{Chosen, No, Did, outcome, answer_to, choose}
use Rattle.aw_law_sites.specs.Sites.{Site, Reaction, silently}
use Rattle.aw_space.specs.Spaces.{space_on}
use Rattle.aw_site.specs.Doing.{IsPlanned}
use Rattle.aw_site.specs.Shown.{space_in}
use Rattle.aw_site.specs.declared.choosing.Prepared.{Prepared}

-- the site after a choice that leads to this, but for what it asks and sends
abbrev pub worked : Grammar → Site → Choice → Outcome Ref Ref → Site
worked g s c x =
    let sp = space_on g s.role (space_in s) c x in
    record s { held = sp.held; choices = sp.choices; equations = sp.equations }

-- a refusal does nothing
abbrev pub reaction_of : Site → Chosen → Reaction
reaction_of s (No a) = silently s
reaction_of s (Did x) = x

-- the answer to the choice, and what is then asked for and sent
pub record Prepares (g : Grammar) (s : Site) (c : Choice) (p : Prepared) : Type 0 where
  pub answer : answer_of p.outcome.answer ≡ answer_to (choose g s c)
  pub plan : IsPlanned g (worked g s c (outcome g s c)) (reaction_of s (choose g s c)) p.plan
