-- A choice is answered by what has arrived at its role.
use Rattle.std.proofs.Common.{◌≡◌, ℕ, Bool, List, ◌++◌, ◌<◌, ap, length, sym, ◌∙◌, refl}
use Rattle.aw_term.specs.Trees.{Never}
use Rattle.aw_term.specs.Names.{Ref}
use Rattle.aw_term.specs.Rules.{Ground, Rule, Grammar}
use Rattle.aw_term.specs.Choices.{Choice, Start, Develop, Answer, Taken, Outcome, Refused, Starts, Takes}
use Rattle.aw_term.specs.Artifacts.{Words}
use Rattle.aw_term.specs.Names.{Node}
use Rattle.aw_term.specs.Runs.{answer_line}
use Rattle.aw_choice.specs.Events.{Event}
use Rattle.aw_law_sites.specs.Choosing.{Chosen, No, Did, answer_to, choose, choose_on, outcome}
use Rattle.aw_law_sites.specs.Homes.{home}
use Rattle.aw_law_sites.specs.Outputs.{after_events, all_moves}
use Rattle.aw_law_sites.specs.Sites.{Site}
use Rattle.aw_law_sites.specs.Transcripts.{answered, sent_since}
use Rattle.aw_law_sites.specs.Worlds.{Chooses, World, chosen_at, empty_world, node_of, site_at, step}
use Rattle.aw_law_worlds.specs.Arriving.{AnswersByArrivals, IsEnabled, arrived_at}
use Rattle.aw_law_worlds.specs.Headline.{EventsAreMoves}
use Rattle.aw_law_worlds.proofs.Folding.{site_is_fold}
use Rattle.aw_law_worlds.proofs.Refusing.{refusals_law}

-- no refusal with this outcome says that the choice was taken
abbrev IsHonest : Outcome Ref Ref → Type 0
IsHonest o = (a : Answer Ref) → o ≡ Refused a → a ≡ Taken → Never

start_taken : (g : Grammar) (s : Site) (st k : ℕ) (o : Outcome Ref Ref) → IsHonest o → answer_to (choose_on g s (Start st k) o) ≡ Taken → o ≡ Starts
start_taken g s st k (Refused a) honest e = elim (honest a refl e) [ ]
start_taken g s st k Starts honest e = refl
start_taken g s st k (Takes rule bound) honest e = absurd cc

rule_taken : (g : Grammar) (s : Site) (n : Node) (r : ℕ) (args : List Ground) (o : Outcome Ref Ref) → IsHonest o → answer_to (choose_on g s (Develop n r args) o) ≡ Taken
    → (rule : Rule) × (bound : List Ref) × (o ≡ Takes rule bound)
rule_taken g s n r args (Refused a) honest e = elim (honest a refl e) [ ]
rule_taken g s n r args Starts honest e = absurd cc
rule_taken g s n r args (Takes rule bound) honest e = (rule, bound, refl)

honest : (g : Grammar) (s : Site) (c : Choice) → IsHonest (outcome g s c)
honest g s c a e taken = refusals_law g s c a (ap (choose_on g s c) e) taken

-- what a site takes is enabled there
taken_enabled : (g : Grammar) (s : Site) (c : Choice) → answer_to (choose g s c) ≡ Taken → IsEnabled g s c
taken_enabled g s (Start st k) e = start_taken g s st k (outcome g s (Start st k)) (honest g s (Start st k)) e
taken_enabled g s (Develop n r args) e = rule_taken g s n r args (outcome g s (Develop n r args)) (honest g s (Develop n r args)) e

-- and what is enabled there it takes
enabled_taken : (g : Grammar) (s : Site) (c : Choice) → IsEnabled g s c → answer_to (choose g s c) ≡ Taken
enabled_taken g s (Start st k) e = ap (λ o. answer_to (choose_on g s (Start st k) o)) e
enabled_taken g s (Develop n r args) e = ap (λ o. answer_to (choose_on g s (Develop n r args) o)) e.2

replied : (v : World) (role : ℕ) (c : Choice) (x : Chosen) → answered (chosen_at v role c x).reply ≡ answer_to x
replied v role c (No a) = refl
replied v role c (Did y) = refl

pub answered_by_arrivals : (w : Words) (g : Grammar) (loads : Bool) (es : List Event) (c : Choice) → EventsAreMoves g → home g (node_of c) < g.roles → AnswersByArrivals w g loads es c
answered_by_arrivals w g loads es c moves within =
    let start = empty_world g loads in
    let v = after_events g start es in
    let role = home g (node_of c) in
    let here : site_at v role ≡ arrived_at g loads es role = ap (λ u. site_at u role) (sym (moves start es)) ∙ site_is_fold g loads (all_moves g start es) role within in
    let sent = sent_since w (length v.messages) (step g v (Chooses c)).world in
    record {
      sent = sent;
      line = ap (λ a. answer_line w c a ++ sent) (replied v role c (choose g (site_at v role) c) ∙ ap (λ s. answer_to (choose g s c)) here);
      taken = taken_enabled g (arrived_at g loads es role) c;
      enabled = enabled_taken g (arrived_at g loads es role) c;
    }
