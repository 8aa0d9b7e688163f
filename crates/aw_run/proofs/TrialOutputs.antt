-- What is replied to a trial.
use Rattle.std.proofs.Common.{◌≡◌, ℕ, ◌≤◌, ◌<◌, Bool, true, false, List, [], sym, ap, ◌∙◌, subst}
use Rattle.std.specs.Prelude.{nat_lt, if◌then◌else◌}
use Rattle.std.proofs.lemmas.Bool.{lt-ltb, le-ltb}
use Rattle.aw_out.specs.declared.report.TheConstants.{OUTPUT_LIMIT}
use Rattle.aw_trial.specs.Counts.{trial}
use Rattle.aw_trial.specs.Summaries.{summary_text}
use Rattle.aw_trial.specs.declared.summary.Summary.{Summary}
use Rattle.aw_front.specs.declared.reply.Reply.{Reply}
use Rattle.aw_front.specs.declared.reply.Status.TheVariants.{Done, TooLarge}
use Rattle.aw_front.specs.Output.{Writes, PastOutputLimit}
use Rattle.aw_front.specs.Replies.{reply, reply_with}
use Rattle.aw_run.specs.Trials.{trial_text, trial_output}

chosen : (past : Bool) (text : List ℕ) → past ≡ false → reply Done text ≡ reply_with (if past then PastOutputLimit else Writes text)
chosen past text is = ap (λ b. reply_with (if b then PastOutputLimit else Writes text)) (sym is)

passed : (past : Bool) (text : List ℕ) → past ≡ true → reply TooLarge [] ≡ reply_with (if past then PastOutputLimit else Writes text)
passed past text is = ap (λ b. reply_with (if b then PastOutputLimit else Writes text)) (sym is)

-- a summary that is within the limit
pub told-trial : (number : ℕ) (s : Summary) (text : List ℕ) → s ≡ trial number → s.bytes ≤ OUTPUT_LIMIT → text ≡ summary_text number s → reply Done text ≡ reply_with (trial_output number)
unfolding trial_output trial_text
told-trial number s text is within lines =
    let few : (trial number).bytes ≤ OUTPUT_LIMIT = subst (λ (x : Summary). x.bytes ≤ OUTPUT_LIMIT) is within in
    ap (reply Done) (lines ∙ ap (summary_text number) is) ∙ chosen (nat_lt OUTPUT_LIMIT (trial number).bytes) (summary_text number (trial number)) (le-ltb OUTPUT_LIMIT (trial number).bytes few)

-- artifact lines past the limit
pub past-trial : (number : ℕ) → OUTPUT_LIMIT < (trial number).bytes → reply TooLarge [] ≡ reply_with (trial_output number)
unfolding trial_output
past-trial number past = passed (nat_lt OUTPUT_LIMIT (trial number).bytes) (trial_text number) (lt-ltb OUTPUT_LIMIT (trial number).bytes past)

done-text : (past : Bool) (text : List ℕ) (said : Reply) (Q : List ℕ → Type 0) → said ≡ reply_with (if past then PastOutputLimit else Writes text) → said.status ≡ Done → Q said.text → Q text
done-text true text said Q is done has = let e : said.status ≡ TooLarge = ap (λ (r : Reply). r.status) is in absurd (cc (e, done))
done-text false text said Q is done has = subst Q (ap (λ (r : Reply). r.text) is) has

-- a trial that is done has told its summary
pub of-trial : (number : ℕ) (said : Reply) (Q : List ℕ → Type 0) → said ≡ reply_with (trial_output number) → said.status ≡ Done → Q said.text → Q (trial_text number)
unfolding trial_output
of-trial number said Q is done has = done-text (nat_lt OUTPUT_LIMIT (trial number).bytes) (trial_text number) said Q is done has
