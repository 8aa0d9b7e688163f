-- Which words spell a command.
use Rattle.std.specs.Prelude.{ℕ, ◌&&◌, List, [], ◌∷◌, Option, Some, None, codes, nat_le, if◌then◌else◌, option_and_then, option_map}
use Rattle.std.specs.Str.{bytes_eq}
use Rattle.aw_run.specs.declared.words.Command.{Command}
use Rattle.aw_spelling.specs.Spelling.{number_of}
use Rattle.aw_run.specs.declared.words.Command.TheVariants.{Reads, Tries, Serves, Keeps, Carries}
use Rattle.aw_run.specs.declared.words.Job.TheVariants.{Check, Tells}
use Rattle.aw_run.specs.declared.words.Telling.TheVariants.{Undivided, Replayed}

-- the command that one word spells
abbrev pub command_named : List ℕ → Option Command
command_named word =
    if bytes_eq word (codes "check") then Some (Reads Check)
    else if bytes_eq word (codes "plain") then Some (Reads (Tells Undivided))
    else if bytes_eq word (codes "replay") then Some (Reads (Tells Replayed))
    else None

-- the command that a word and a number spell
abbrev pub numbered : List ℕ → List ℕ → Option Command
numbered word number =
    if bytes_eq word (codes "trial") then option_map Tries (number_of number)
    else if bytes_eq word (codes "courier") then option_map Carries (number_of number)
    else None

-- as many sessions as a node may be asked for
abbrev pub as_session_count : ℕ → Option ℕ
as_session_count n = if nat_le 1 n && nat_le n 1000000 then Some n else None

-- how many sessions a word asks for
abbrev pub session_count : List ℕ → Option ℕ
session_count word = option_and_then as_session_count (number_of word)

-- the command that the first and the third of three words spell
abbrev pub node_named : List ℕ → List ℕ → Option Command
node_named word sessions = if bytes_eq word (codes "node") then option_map Serves (session_count sessions) else None

-- the command that the first and the last two of four words spell
abbrev pub kept_named : List ℕ → List ℕ → List ℕ → Option Command
kept_named word sessions last =
    if bytes_eq word (codes "node") then (if bytes_eq last (codes "kept") then option_map Keeps (session_count sessions) else None) else None

-- the command that the words of a command line spell
abbrev pub command_of : List (List ℕ) → Option Command
command_of [] = None
command_of (word ∷ []) = command_named word
command_of (word ∷ number ∷ []) = numbered word number
command_of (word ∷ role ∷ sessions ∷ []) = node_named word sessions
command_of (word ∷ role ∷ sessions ∷ last ∷ []) = kept_named word sessions last
command_of (word ∷ role ∷ sessions ∷ last ∷ next ∷ more) = None

-- the word that names a role
abbrev pub role_word : List (List ℕ) → List ℕ
role_word [] = []
role_word (word ∷ []) = []
role_word (word ∷ role ∷ more) = role
