-- A choice that is not taken changes no site and sends nothing.
use Rattle.std.proofs.Common.{◌≡◌, ◌∙◌, Bool, false, [], refl, ap, sym}
use Rattle.std.specs.Prelude.{IsTrue, ◌↔◌}
use Rattle.aw_term.specs.Rules.{Grammar}
use Rattle.aw_term.specs.Choices.{Choice, Taken, answer_of as told_of}
use Rattle.aw_choice.specs.ChoiceView.{answer_of}
use Rattle.aw_choice.specs.declared.choice.Answer.{Answer}
use Rattle.aw_choice.specs.declared.choice.Answer.TheVariants as answer
use Rattle.aw_law_sites.specs.Choosing.{Chosen, No, Did, answer_to, choose}
use Rattle.aw_law_sites.specs.SiteEvents.{after_choice}
use Rattle.aw_law_sites.specs.Sites.{Site}
use Rattle.aw_space.specs.Spaces.{Space, outcome}
use Rattle.aw_space.proofs.Refused.{told_refused}
use Rattle.aw_site.specs.Answers.{sent_by}
use Rattle.aw_site.specs.Shown.{space_in}
use Rattle.aw_site.proofs.ChosenSites.{answered}

-- the site stays
pub site_stays : (s : Site) (x : Chosen) → (answer_to x ≡ Taken → ⊥) → after_choice s x ≡ s
site_stays s (No a) refused = refl
site_stays s (Did r) refused = absurd (refused refl)

-- and no message is sent
pub none_sent : (x : Chosen) → (answer_to x ≡ Taken → ⊥) → sent_by x ≡ []
none_sent (No a) refused = refl
none_sent (Did r) refused = absurd (refused refl)

-- what a workspace foresees is the answer of a site that holds the same
pub answer_foreseen : (g : Grammar) (s : Site) (seen : Space) (c : Choice) (a : Answer) → space_in s ≡ seen → answer_of a ≡ told_of (outcome g seen c) → answer_of a ≡ answer_to (choose g s c)
answer_foreseen g s seen c a holds told = told ∙ ap (λ (sp : Space). told_of (outcome g sp c)) (sym holds) ∙ sym (answered g s c)

-- a choice of which that answer is not that it is taken is not taken by that site
pub refused_there : (g : Grammar) (s : Site) (seen : Space) (c : Choice) (a : Answer) (b : Bool) → space_in s ≡ seen → answer_of a ≡ told_of
    (outcome g seen c) → (IsTrue b ↔ (a ≡ answer.Taken)) → b ≡ false → answer_to (choose g s c) ≡ Taken → ⊥
refused_there g s seen c a b holds told is refused = told_refused b a (answer_to (choose g s c)) is (answer_foreseen g s seen c a holds told) refused
