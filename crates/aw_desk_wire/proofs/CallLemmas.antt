-- The sessions of a wire, and what is told of them.
use Rattle.std.proofs.Common.{◌≡◌, ℕ, ◌+◌, List, take, drop, Bool, true}
use Rattle.std.proofs.lemmas.List.{drop-drop}
use Rattle.std.proofs.Math.Seq.{take-add}
use Rattle.aw_out.specs.declared.edge.Got.TheVariants.{Read}
use Rattle.aw_out.specs.Wires.{Session}
use Rattle.aw_desk_wire.specs.Calls.{has_read}

-- a session, of whose replies so many bytes were read
abbrev pub shown : ℕ → List ℕ → List ℕ → Bool → ℕ → Session
shown role replies written failed at = record { role = role; dialed = true; read = take at replies; left = drop at replies; written = written; failed = failed }

-- some more of them were read
pub reads-more : (role : ℕ) (replies written : List ℕ) (failed : Bool) (at n : ℕ) → shown role replies written failed (at + n) ≡ has_read (Read n) (shown role replies written failed at)
reads-more role replies written failed at n = let both = take-add at n replies in let rest = drop-drop n at replies in cc
