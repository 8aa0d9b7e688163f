-- A text with a limit, and what a call that prints does to it.
use Rattle.std.specs.Prelude.{◌≡◌, ℕ, ◌+◌, ◌≤◌, ◌<◌, List, ◌++◌, length, take, OnOk, OnErr, Err}
use Rattle.std.specs.declared.result.Result.{Result}
use Rattle.aw_out.specs.declared.error.PrintFault.{PrintFault}
use Rattle.aw_out.specs.declared.error.PrintFault.TheVariants.{TooLarge}

-- the text so far, and the most bytes that it may have
pub record Bounded : Type 0 where
  pub text : List ℕ
  pub limit : ℕ

-- the report with this text added at its end
abbrev pub printed : Bounded → List ℕ → Bounded
printed report text = record report { text = report.text ++ text }

-- the report has got the front of this text, perhaps all of it or nothing
abbrev pub PrintsFront : List ℕ → Bounded → Bounded → Type 0
PrintsFront text old new = (n : ℕ) × (n ≤ length text) × (new ≡ printed old (take n text))

-- What a call does that adds a text to a report, perhaps in several pushes. It is too large only where the text would pass the limit.
pub record Prints (text : List ℕ) (old new : Bounded) (result : Result Unit PrintFault) : Type 0 where
  pub ok : OnOk result (new ≡ printed old text)
  pub too_large : result ≡ Err TooLarge → old.limit < length old.text + length text
  pub front : OnErr result (PrintsFront text old new)
