-- What is counted in the end.
use Rattle.std.proofs.Common.{◌≡◌, ℕ, ◌<◌, ◌≤◌, List, [], length, map, Some, None, Ok, Err, refl, ap, sym, ◌∙◌, subst}
use Rattle.std.specs.Prelude.{Result, Option, IfOk, false}
use Rattle.std.proofs.Math.Logic.{∥∥₁_elim}
use Rattle.std.proofs.lemmas.List.{length-map}
use mathlib.Core.HLevel.{⊥_prop}
use Rattle.aw_term.specs.Artifacts.{Words, artifact_text}
use Rattle.aw_term.specs.Rules.{Grammar}
use Rattle.aw_term.specs.Choices.{undivided, or_same}
use Rattle.aw_term.specs.Configs.{Config}
use Rattle.aw_grammar.specs.GrammarOf.{grammar_of, words_of}
use Rattle.aw_accept.specs.declared.accepted.Accepted.{Accepted}
use Rattle.aw_choice.specs.Events.{Event}
use Rattle.aw_choice.specs.ChoiceView.{choice_of}
use Rattle.aw_msg.specs.MessageView.{message_of}
use Rattle.aw_out.specs.declared.error.PrintFault.{PrintFault}
use Rattle.aw_out.specs.declared.error.PrintFault.TheVariants.{TooLarge, NoMemory}
use Rattle.aw_law_sites.specs.Worlds as V
use Rattle.aw_law_sites.specs.Bounds.{settled}
use Rattle.aw_world.specs.declared.workspace.Workspace.{Ghosts}
use Rattle.aw_world.specs.declared.world.World.{World}
use Rattle.aw_world.specs.Shown.{Shows}
use Rattle.aw_world.specs.WorldView.{plain_of, named_by}
use Rattle.aw_world.proofs.WorldFacts.{reached_configured}
use Rattle.aw_trial.specs.declared.tally.Tally.{Tally}
use Rattle.aw_trial.specs.declared.summary.Summary.{Summary}
use Rattle.aw_trial.specs.Turns.{turns}
use Rattle.aw_trial.specs.Comes.{Does}
use Rattle.aw_trial.specs.Counts.{tally_from, config_of, counted, counted_after, trial_in}
use Rattle.aw_trial.specs.Specification.{trial_grammar, trial_words}
use Rattle.aw_trial.specs.Told.{CountsLines, Tells, most_bytes}

module _ {W : Type 0} (f : Ghosts W) (w : World W f) where
  configured : undivided (plain_of w) [] (map choice_of w.taken.items) ≡ None → ⊥
  configured none = ∥∥₁_elim (reached_configured f w.accepted.now w.loads w.sites.items w.messages w.marks.delivered.items w.taken.items w.reached) ⊥_prop
      (λ h. let e = h.1 in let z : None ≡ Some h.0 = sym none ∙ e in absurd cc)

  there : (o : Option Config) → undivided (plain_of w) [] (map choice_of w.taken.items) ≡ o → (c : Config) × (undivided (plain_of w) [] (map choice_of w.taken.items) ≡ Some c)
  there None e = absurd (configured e)
  there (Some c) e = (c, e)

  -- the choices taken have a configuration
  config_there : (c : Config) × (undivided (plain_of w) [] (map choice_of w.taken.items) ≡ Some c)
  config_there = there (undivided (plain_of w) [] (map choice_of w.taken.items)) refl

  same_config : (v : V.World) → Shows f w v → (c : Config) → undivided (plain_of w) [] (map choice_of w.taken.items) ≡ Some c → config_of (plain_of w) v ≡ c
  same_config v S c e = ap (λ (u : V.World). or_same [] (undivided (plain_of w) [] u.taken)) (sym S) ∙ ap (or_same []) e

  module _ (t : Tally) (v : V.World) (S : Shows f w v) where
    -- everything is counted
    pub told_ok : (a b m : ℕ) (s : Summary) → CountsLines (named_by w) (plain_of w) (map choice_of w.taken.items) (Ok (a, b)) → m ≡ length w.messages
        → s ≡ record { starts = t.starts; choices = t.choices; taken = t.taken; messages = m; repeats = t.repeats; artifacts = a; bytes = b }
        → Tells (counted (named_by w) (plain_of w) t v) (Ok s)
    told_ok a b m s lines em es =
        let (c, e) = config_there in
        let (ea, eb, within) = lines c e in
        let k = sym (same_config v S c e) in
        let sent : m ≡ length v.messages = em ∙ sym (length-map w.messages (message_of (plain_of w))) ∙ ap (λ (u : V.World). length u.messages) S in
        let rows : a ≡ length (config_of (plain_of w) v) = ea ∙ ap length k in
        let bytes : length (artifact_text (named_by w) c) ≡ length (artifact_text (named_by w) (config_of (plain_of w) v)) = ap (λ x. length (artifact_text (named_by w) x)) k in (
          es ∙ (λ i. record { starts = t.starts; choices = t.choices; taken = t.taken; messages = sent i; repeats = t.repeats; artifacts = rows i; bytes = (eb ∙ bytes) i }),
          subst (λ n. n ≤ most_bytes) bytes within,
        )

    -- the lines were too long, or memory was missing
    pub told_err : (fault : PrintFault) → CountsLines (named_by w) (plain_of w) (map choice_of w.taken.items) (Err fault) → Tells (counted (named_by w) (plain_of w) t v) (Err fault)
    told_err TooLarge lines =
        let (c, e) = config_there in
        subst (λ x. most_bytes < length (artifact_text (named_by w) x)) (sym (same_config v S c e)) (lines c e)
    told_err NoMemory lines = tt

-- the turns, the settling and the counting
pub ran : {W : Type 0} (f : Ghosts W) (old mid new : World W f) (t u : Tally) (count : ℕ) (r : Result Summary PrintFault)
    → mid.accepted.now ≡ old.accepted.now → new.accepted.now ≡ mid.accepted.now
    → Does f old t mid u (turns count (plain_of old))
    → ((v : V.World) → Shows f mid v → Shows f new (settled (plain_of mid) v))
    → ((v : V.World) → Shows f new v → Tells (counted (named_by new) (plain_of new) u v) r)
    → (v : V.World) (es : List Event) → Shows f old v → Tells (counted_after (named_by old) (plain_of old) (turns count (plain_of old) (record { world = v; tally = t; events = es }))) r
ran f old mid new t u count r em en does settles tells v es S =
    let s = turns count (plain_of old) (record { world = v; tally = t; events = es }) in
    let came = does v es S in
    let quiet : Shows f new (settled (plain_of old) s.world) = subst (λ (a : Accepted). Shows f new (settled (grammar_of a.grammar) s.world)) em (settles s.world came.world) in
    let told = tells (settled (plain_of old) s.world) quiet in
    subst (λ x. Tells (counted (named_by old) (plain_of old) x (settled (plain_of old) s.world)) r) came.tally
    (subst (λ (a : Accepted). Tells (counted (words_of a.grammar) (grammar_of a.grammar) u (settled (plain_of old) s.world)) r) (en ∙ em) told)

-- where counting the lines failed
pub told_failed : {W : Type 0} (f : Ghosts W) (w : World W f) (t : Tally) (v : V.World) → Shows f w v → (fault : PrintFault) (r1 : Result (ℕ × ℕ) PrintFault) (r : Result Summary PrintFault)
    → r1 ≡ Err fault → r ≡ Err fault → CountsLines (named_by w) (plain_of w) (map choice_of w.taken.items) r1 → Tells (counted (named_by w) (plain_of w) t v) r
told_failed f w t v S fault r1 r e er lines =
    subst (Tells (counted (named_by w) (plain_of w) t v)) (sym er) (told_err f w t v S fault (subst (CountsLines (named_by w) (plain_of w) (map choice_of w.taken.items)) e lines))

pub no_memory : (s : Summary) (r : Result Summary PrintFault) → r ≡ Err NoMemory → Tells s r
no_memory s r e = subst (Tells s) (sym e) tt

-- from the world in which no site holds anything
pub tried : {W : Type 0} (f : Ghosts W) (w : World W f) (count n : ℕ) (t : Tally) (r : Result Summary PrintFault) → t ≡ tally_from n
    → Shows f w (V.empty_world (plain_of w) false)
    → ((v : V.World) (es : List Event) → Shows f w v → Tells (counted_after (named_by w) (plain_of w) (turns count (plain_of w) (record { world = v; tally = t; events = es }))) r)
    → Tells (trial_in (named_by w) (plain_of w) count n) r
tried f w count n t r et S tells =
    let v = V.empty_world (plain_of w) false in
    subst (λ q. Tells (counted_after (named_by w) (plain_of w) (turns count (plain_of w) (record { world = v; tally = q; events = [] }))) r) et (tells v [] S)

-- in the grammar of the trial
pub tried_there : (w : Words) (g : Grammar) (count n : ℕ) (r : Result Summary PrintFault) → w ≡ trial_words → g ≡ trial_grammar →
    Tells (trial_in w g count n) r → Tells (trial_in trial_words trial_grammar count n) r
tried_there w g count n r ew eg told = subst (λ x. Tells (trial_in x trial_grammar count n) r) ew (subst (λ x. Tells (trial_in w x count n) r) eg told)

-- what is told
pub told_summary : (s : Summary) (r : Result Summary PrintFault) → Tells s r → IfOk r (λ x. x ≡ s)
told_summary s (Ok x) told = told.0
told_summary s (Err e) told = tt

pub told_within : (s : Summary) (r : Result Summary PrintFault) → Tells s r → IfOk r (λ x. x.bytes ≤ most_bytes)
told_within s (Ok x) told = subst (λ (y : Summary). y.bytes ≤ most_bytes) (sym told.0) told.1
told_within s (Err e) told = tt

pub told_too_large : (s : Summary) (r : Result Summary PrintFault) → Tells s r → r ≡ Err TooLarge → most_bytes < s.bytes
told_too_large s r told e = subst (Tells s) e told
