-- The laws of choices, for every list of choices.
use Rattle.std.proofs.Common.{◌≡◌, List, [], Option, Some, None, refl, subst}
use Rattle.aw_list.proofs.Members.{never}
use Rattle.aw_term.specs.Names.{Ref}
use Rattle.aw_term.specs.Rules.{Value, Grammar}
use Rattle.aw_term.specs.Configs.{Config}
use Rattle.aw_term.specs.Choices.{Choice, Outcome, Refused, Starts, Takes, answer_of, outcome, taken, undivided}
use Rattle.aw_term.specs.Artifacts.{Words}
use Rattle.aw_store.specs.Equations.{Map}
use Rattle.aw_law_sites.specs.Joint.{Joint, empty_joint, joint_outcome, joint_taken, joint_run}
use Rattle.aw_law_sites.specs.Laws.{IsAccepted, FlatIsSubstitution, StepsAgree, AnswersAgree, AreAcyclic, EquationsAreAcyclic, AnyOrder}
use Rattle.aw_law_sites.proofs.EquationCircles.{acyclic}
use Rattle.aw_accept.proofs.Fitting.{given_of}
use Rattle.aw_law_sites.proofs.Entering.{variables_enter}
use Rattle.aw_law_sites.proofs.OutcomesAlike.{OutLike}
use Rattle.aw_law_sites.proofs.Lockstep.{Lockstep, LikeStates, run_lockstep, step_lockstep, weaken, answers_agree, empty_lockstep, flat_is_substitution}
use Rattle.aw_law_sites.proofs.SameConfigs.{same_configuration}

pub same_answer : (k : Map) (o : Outcome Ref Ref) (o' : Outcome Value Ref) → OutLike k o o' → answer_of o ≡ answer_of o'
same_answer k (Refused a) (Refused b) l = l
same_answer k Starts Starts l = refl
same_answer k (Takes r xs) (Takes r' ts) l = refl
same_answer k (Refused a) Starts l = never l
same_answer k (Refused a) (Takes r ts) l = never l
same_answer k Starts (Refused b) l = never l
same_answer k Starts (Takes r ts) l = never l
same_answer k (Takes r xs) (Refused b) l = never l
same_answer k (Takes r xs) Starts l = never l

module _ (w : Words) (g : Grammar) (accepted : IsAccepted w g) where
  in_step : (v : Joint) (c : Config) (o : Option Joint) (o' : Option Config) → LikeStates g (given_of w g accepted.0) (variables_enter w g accepted.0)
      accepted.1 o o' → o ≡ Some v → o' ≡ Some c → Lockstep g (given_of w g accepted.0) (variables_enter w g accepted.0) accepted.1 v c
  in_step v c None o' l e f = absurd cc
  in_step v c (Some u) None l e f = absurd cc
  in_step v c (Some u) (Some d) l e f =
      let p : u ≡ v = cc in
      let q : d ≡ c = cc in
      subst (λ u. Lockstep g (given_of w g accepted.0) (variables_enter w g accepted.0) accepted.1 u c) p
      (subst (λ d. Lockstep g (given_of w g accepted.0) (variables_enter w g accepted.0) accepted.1 u d) q l)

  pub flat_law : FlatIsSubstitution g
  flat_law cs = flat_is_substitution g (given_of w g accepted.0) (variables_enter w g accepted.0) accepted.1 cs

  reached_in_step : (cs : List Choice) (v : Joint) (c : Config) → joint_run g empty_joint cs ≡ Some v → undivided g [] cs ≡ Some c →
      Lockstep g (given_of w g accepted.0) (variables_enter w g accepted.0) accepted.1 v c
  reached_in_step cs v c e f = in_step v c (joint_run g empty_joint cs) (undivided g [] cs) (run_lockstep g (given_of w g accepted.0)
      (variables_enter w g accepted.0) accepted.1 cs empty_joint [] (empty_lockstep g (given_of w g accepted.0)
      (variables_enter w g accepted.0) accepted.1)) e f

  pub steps_law : StepsAgree g
  steps_law cs v c e f x =
      let l = reached_in_step cs v c e f in
      weaken g (given_of w g accepted.0) (variables_enter w g accepted.0) accepted.1 (joint_taken v x (joint_outcome v g x))
      (taken g c x (outcome g c x)) (step_lockstep g (given_of w g accepted.0) (variables_enter w g accepted.0) accepted.1 v c l x
      (joint_outcome v g x) (outcome g c x) refl refl (answers_agree g (given_of w g accepted.0) (variables_enter w g accepted.0) accepted.1 v c l x))

  pub answers_law : AnswersAgree g
  answers_law cs v c e f x = same_answer v.equations (joint_outcome v g x) (outcome g c x) (answers_agree g (given_of w g accepted.0)
      (variables_enter w g accepted.0) accepted.1 v c (reached_in_step cs v c e f) x)

  run_acyclic : (v : Joint) (o : Option Joint) (o' : Option Config) → LikeStates g (given_of w g accepted.0) (variables_enter w g accepted.0) accepted.1 o o' → o ≡ Some v → AreAcyclic v.equations
  run_acyclic v None o' l e = absurd cc
  run_acyclic v (Some u) None l e = never l
  run_acyclic v (Some u) (Some d) l e = let p : u ≡ v = cc in subst (λ (u : Joint). AreAcyclic u.equations) p (acyclic u.equations d l.values)

  pub acyclic_law : EquationsAreAcyclic g
  acyclic_law cs v e = run_acyclic v (joint_run g empty_joint cs) (undivided g [] cs) (run_lockstep g (given_of w g accepted.0)
      (variables_enter w g accepted.0) accepted.1 cs empty_joint [] (empty_lockstep g (given_of w g accepted.0) (variables_enter w g accepted.0) accepted.1)) e

  pub order_law : AnyOrder g
  order_law cs ds same c d e f = same_configuration g (given_of w g accepted.0) (variables_enter w g accepted.0) accepted.1 cs ds same.0 same.1 c d e f
