-- One role alone: what is written of its choices is what the undivided run writes of them.
use Rattle.std.proofs.Common.{◌≡◌, ℕ, Bool, true, List, [], ◌∷◌, ◌++◌, length, map, Some, None, ap, sym, ◌∙◌, refl, append_assoc}
use Rattle.aw_list.proofs.Members.{never}
use Rattle.aw_term.specs.Trees.{Never}
use Rattle.aw_term.specs.Names.{Ref}
use Rattle.aw_term.specs.Rules.{Grammar, Value}
use Rattle.aw_term.specs.WellFormed.{Each}
use Rattle.aw_term.specs.Configs.{Config}
use Rattle.aw_term.specs.Choices.{Choice, Start, Develop, Taken, Outcome, Refused, Starts, Takes, answer, answer_of, after, outcome, or_same, taken, undivided}
use Rattle.aw_term.specs.Artifacts.{Words}
use Rattle.aw_term.specs.Runs.{answer_line, answer_lines, after_all, artifacts}
use Rattle.aw_term.proofs.Eaches.{each_push}
use Rattle.aw_base.specs.ChoiceFits.{choice_ok}
use Rattle.aw_accept.proofs.OneMore.{undivided_more}
use Rattle.aw_apply.specs.Messages.{Message}
use Rattle.aw_law_sites.specs.Laws.{IsAccepted}
use Rattle.aw_law_sites.specs.Homes.{home}
use Rattle.aw_law_sites.specs.Choosing.{Chosen, No, Did, answer_to, choose}
use Rattle.aw_law_sites.specs.Transcripts.{answered, sent_since}
use Rattle.aw_law_sites.specs.Worlds.{World, Move, MayCome, Chooses, chosen_at, empty_world, node_of, site_at, step, undelivered, world_after}
use Rattle.aw_law_sites.specs.Outputs.{after_events, all_lines, artifacts_on, ending, ending_on, event_lines}
use Rattle.aw_law_worlds.specs.Headline.{OneRoleIsPlain}
use Rattle.aw_law_worlds.proofs.Refusing.{refusals_law}
use Rattle.aw_law_worlds.proofs.Settling.{run_more}
use Rattle.aw_law_worlds.proofs.WorldLaws.{answers_law, one_role_law, quiet_law}
use Rattle.aw_choice.specs.Events as E

-- a world tells the answer of the site
told : (w : World) (role : ℕ) (c : Choice) (x : Chosen) → answered (chosen_at w role c x).reply ≡ answer_to x
told w role c (No a) = refl
told w role c (Did y) = refl

nothing_sent : (w : Words) (n : ℕ) (ms : List Message) (v : World) → ms ≡ [] → v.messages ≡ [] → sent_since w (length ms) v ≡ []
nothing_sent w n ms v e f = ap (λ k. sent_since w (length k) v) e ∙ none v.messages f
  where
    none : (ns : List Message) → ns ≡ [] → sent_since w 0 (record v { messages = ns }) ≡ []
    none [] p = refl
    none (m ∷ ns) p = absurd cc

-- a choice whose answer is no `taken` leaves the configuration as it is
unchanged_by : (g : Grammar) (c : Config) (x : Choice) (o : Outcome Value Ref) → (answer_of o ≡ Taken → Never) → or_same c (taken g c x o) ≡ c
unchanged_by g c (Start s k) (Refused a) n = refl
unchanged_by g c (Develop m r args) (Refused a) n = refl
unchanged_by g c x Starts n = never (n refl)
unchanged_by g c x (Takes rule bound) n = never (n refl)

module _ (w : Words) (g : Grammar) (accepted : IsAccepted w g) (one : g.roles ≡ 1) (loads : Bool) where
  module _ (es : List Move) (may : Each (MayCome g) es) where
    abbrev v : World
    v = world_after g loads es

    quiet : undelivered v ≡ None
    quiet = (one_role_law w g accepted one loads es may).1

    module _ (c : Config) (here : undivided g [] v.taken ≡ Some c) (x : Choice) (ok : choice_ok g x ≡ true) where
      abbrev x_at : ℕ
      x_at = home g (node_of x)

      abbrev chosen : Chosen
      chosen = choose g (site_at v x_at) x

      same_config : (d : Config) → undivided g [] v.taken ≡ Some d → d ≡ c
      same_config d e = some_is (sym e ∙ here)
        where
          some_is : Some d ≡ Some c → d ≡ c
          some_is p = cc

      same_answer : answer_to chosen ≡ answer g c x
      same_answer = let (d, e, f) = answers_law w g accepted loads es may in f quiet x ∙ ap (λ d. answer g d x) (same_config d e)

      abbrev more : List Move
      more = es ++ Chooses x ∷ []

      may_more : Each (MayCome g) more
      may_more = each_push (MayCome g) es (Chooses x) may ok

      next : world_after g loads more ≡ (step g v (Chooses x)).world
      next = run_more g (empty_world g loads) es (Chooses x)

      by_chosen : (z : Chosen) → chosen ≡ z → (d : Config) → undivided g [] (chosen_at v x_at x z).world.taken ≡ Some d → d ≡ after g c x
      by_chosen (No a) e d f =
          let still : answer_of (outcome g c x) ≡ Taken → Never = λ t. refusals_law g (site_at v x_at) x a e (sym (ap answer_to e) ∙ same_answer ∙ t) in
          same_config d f ∙ sym (unchanged_by g c x (outcome g c x) still)
      by_chosen (Did y) e d f =
          let p : taken g c x (outcome g c x) ≡ Some d = sym (undivided_more g [] v.taken x c here) ∙ f in
          ap (or_same c) (sym p)

      after_it : undivided g [] (world_after g loads more).taken ≡ Some (after g c x)
      after_it =
          let (d, e, f) = quiet_law w g accepted loads more may_more in
          let k : d ≡ after g c x = by_chosen chosen refl d (ap (λ u. undivided g [] u.taken) (sym next) ∙ e) in
          e ∙ ap Some k

      lines_of : event_lines w g v (E.Chooses x) ≡ answer_line w x (answer g c x)
      lines_of =
          let a : answered (step g v (Chooses x)).reply ≡ answer g c x = told v x_at x chosen ∙ same_answer in
          let m = (one_role_law w g accepted one loads es may).0 in
          let n = ap (λ u. u.messages) (sym next) ∙ (one_role_law w g accepted one loads more may_more).0 in
          ap (λ t. answer_line w x (answered (step g v (Chooses x)).reply) ++ t) (nothing_sent w 0 v.messages (step g v (Chooses x)).world m n)
          ∙ end _ ∙ ap (answer_line w x) a
        where
          end : (t : List ℕ) → t ++ [] ≡ t
          end [] = refl
          end (k ∷ t) = ap (λ t. k ∷ t) (end t)

  all_of : (cs : List Choice) → Each (λ x. choice_ok g x ≡ true) cs → (es : List Move) → Each (MayCome g) es → (c : Config) → undivided g [] (world_after g loads es).taken ≡ Some c
      → all_lines w g (world_after g loads es) (map E.Chooses cs) ++ ending w g (after_events g (world_after g loads es) (map E.Chooses cs)) ≡ answer_lines w g c cs ++ artifacts w (after_all g c cs)
  all_of [] ok es may c here = ap (ending_on w g (world_after g loads es)) (quiet es may) ∙ ap (artifacts_on w) here
  all_of (x ∷ cs) ok es may c here =
      let u = (step g (world_after g loads es) (Chooses x)).world in
      let rest = all_of cs ok.1 (more es may c here x ok.0) (may_more es may c here x ok.0) (after g c x) (after_it es may c here x ok.0) in
      append_assoc (event_lines w g (world_after g loads es) (E.Chooses x)) (all_lines w g u (map E.Chooses cs)) (ending w g (after_events g u (map E.Chooses cs)))
      ∙ ap (λ t. event_lines w g (world_after g loads es) (E.Chooses x) ++ t)
      (ap (λ z. all_lines w g z (map E.Chooses cs) ++ ending w g (after_events g z (map E.Chooses cs))) (sym (next es may c here x ok.0)) ∙ rest)
      ∙ ap (λ t. t ++ (answer_lines w g (after g c x) cs ++ artifacts w (after_all g (after g c x) cs))) (lines_of es may c here x ok.0)
      ∙ sym (append_assoc (answer_line w x (answer g c x)) (answer_lines w g (after g c x) cs) (artifacts w (after_all g (after g c x) cs)))

pub one_role_plain : (w : Words) (g : Grammar) → IsAccepted w g → OneRoleIsPlain w g
one_role_plain w g accepted one loads cs ok = all_of w g accepted one loads cs ok [] tt [] refl
