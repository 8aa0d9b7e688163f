-- What the node of a role leads to, and the lines that it writes of its sessions.
use Rattle.std.specs.Prelude.{◌≡◌, ◌⊎◌, ◌≤◌, ℕ, suc, List, [], ◌∷◌, ◌++◌, true, length, codes, Option, None, Some}
use Rattle.std.specs.Fmt.{decimal}
use Rattle.aw_grammar.specs.Declarations.{grammar_in, words_in}
use Rattle.aw_grammar.specs.Named.{number_named}
use Rattle.aw_law_sites.specs.Sites.{empty_site}
use Rattle.aw_session.specs.Sessions.{NoneComes}
use Rattle.aw_session.specs.declared.log.How.{How}
use Rattle.aw_session.specs.declared.log.How.TheVariants.{End, Cut, Bad, Long, Fault}
use Rattle.aw_session.specs.declared.log.SessionLog.{SessionLog}
use Rattle.aw_node.specs.Serving.{Serves}
use Rattle.aw_node.specs.TypedNodes.{Rules}
use Rattle.aw_spec.specs.Reading.{Spec}
use Rattle.aw_typed.specs.Typing.{types_of}
use Rattle.aw_run.specs.Devices.{Wired}
use Rattle.aw_front.specs.Output.{Output, Writes, UnknownRole, OfAccepted}

-- how a session ended
abbrev pub how_name : How → List ℕ
how_name End = codes "end"
how_name Cut = codes "cut"
how_name Bad = codes "bad"
how_name Long = codes "long"
how_name Fault = codes "fault"

-- `session 1 frames 4 end`
abbrev pub session_line : ℕ → SessionLog → List ℕ
session_line number log = codes "session " ++ (decimal number ++ (codes " frames " ++ (decimal log.frames ++ (codes " " ++ (how_name log.how ++ codes "\n")))))

-- the lines of sessions, the first with this number
abbrev pub session_lines : ℕ → List SessionLog → List ℕ
session_lines number [] = []
session_lines number (log ∷ logs) = session_line number log ++ session_lines (suc number) logs

-- what a node stands on: the words of a specification, its types and its grammar
abbrev pub rules_in : Spec → Rules
rules_in s = record { words = words_in s.declared; types = types_of s.types; grammar = grammar_in s.declared }

-- So many sessions were served, or as many as came, from the site of the role that holds nothing and sends loads; the wire tells them, a call of it failed
-- exactly where a session is told as `fault`, and they are written.
pub record ServesRole (s : Spec) (role sessions : ℕ) (x : Wired) (output : Output) : Type 0 where
  pub logs : List SessionLog
  pub served : Serves x.wire.content x.wire.faults x.wire.failed_openings (rules_in s) role (empty_site true role) x.before x.after logs
  pub most : length logs ≤ sessions
  pub all : (length logs ≡ sessions) ⊎ NoneComes (x.wire.content x.after)
  pub writes : output ≡ Writes (session_lines 1 logs)

-- of a role P says what comes, and where there is none that is told
abbrev pub ByNumber : (P : ℕ → Output → Type 0) → Option ℕ → Output → Type 0
ByNumber P None output = output ≡ UnknownRole
ByNumber P (Some role) output = P role output

-- the role that the specification declares by this name
abbrev pub role_in : Spec → (name : List ℕ) → Option ℕ
role_in s name = number_named (words_in s.declared).roles name

-- the role of that name is served, where one is declared
abbrev pub ServesNamed : (name : List ℕ) → (sessions : ℕ) → Wired → Spec → Output → Type 0
ServesNamed name sessions x s = ByNumber (λ role. ServesRole s role sessions x) (role_in s name)

-- The output of the node of a role for an input.
unfoldable pub IsServingOutputOf : (name : List ℕ) → (sessions : ℕ) → Wired → List ℕ → Output → Type 0
IsServingOutputOf name sessions x input output = OfAccepted (ServesNamed name sessions x) input output
