-- The line of one task.
use Rattle.std.specs.Prelude.{◌≡◌, ◌⊎◌, ℕ, ◌<◌, ◌≤◌, Bool, true, false, List, [], ◌++◌, length, Some, slice_get, OnOk, IfErr, Ok, Err}
use Rattle.std.specs.List.{concat}
use Rattle.std.specs.declared.option.Option.{Option}
use Rattle.std.specs.declared.result.Result.{Result}
use Rattle.aw_list.specs.Members.{Never, Member}
use Rattle.aw_accept.specs.Acyclic.{Pairs}
use Rattle.aw_term.specs.Artifacts.{row_text}
use Rattle.aw_term.specs.Configs.{Row}
use Rattle.aw_term.specs.Held.{Held}
use Rattle.aw_grammar.specs.declared.grammar.Grammar.{Grammar}
use Rattle.aw_grammar.specs.GrammarOf.{grammar_of, words_of}
use Rattle.aw_law_sites.specs.Sites.{Site}
use Rattle.aw_node_list.specs.declared.held.Held as program
use Rattle.aw_out.specs.declared.error.PrintFault.{PrintFault}
use Rattle.aw_out.specs.declared.error.PrintFault.TheVariants as print
use Rattle.aw_law_worlds.specs.ReadRows.{IsRead}
use Rattle.aw_out.specs.Report.{Bounded, printed}
use Rattle.aw_store.specs.Equations.{Map}
use Rattle.aw_world.specs.declared.workspace.Workspace.{Ghosts}
use Rattle.aw_book_join.specs.declared.fault.TasksFault.{TasksFault}
use Rattle.aw_book_join.specs.declared.fault.TasksFault.TheVariants.{WriteFault, TooLong, NoMemory}
use Rattle.aw_book_join.specs.declared.lines.Lines.{Lines}
use Rattle.aw_book_join.specs.declared.view.View.{View}
use Rattle.aw_book_join.specs.Handing.{Hands, Writes}
use Rattle.aw_book_join.specs.Views.{is_asked}

-- the most bytes of a line that is printed for certain
abbrev pub line_limit : ℕ
line_limit = 67108864

-- so many bytes are gathered before they are written
abbrev pub piece : ℕ
piece = 1048576

-- room for both
abbrev pub room_limit : ℕ
room_limit = 68157440

-- the text is the line of a row that is read from a held node over these equations
abbrev pub IsLine : Grammar → Map → Held → List ℕ → Type 0
IsLine d k h text = (q : Row) × IsRead (grammar_of d) k h q × (text ≡ row_text (words_of d) q)

-- where it is asked for it is such a line, and else nothing
abbrev pub Told : Bool → (List ℕ → Type 0) → List ℕ → Type 0
Told true line text = line text
Told false line text = text ≡ []

-- the text is what is printed of a held node
abbrev pub IsTold : Grammar → View → Map → Held → List ℕ → Type 0
IsTold d v k h text = Told (is_asked v h.node h.state) (IsLine d k h) text

-- no line of this node is as short as lines may be
abbrev pub IsLong : Grammar → Map → Held → Type 0
IsLong d k h = (text : List ℕ) → IsLine d k h text → line_limit < length text

-- where a line is too long it is that of this node
abbrev pub TellsLine : Grammar → Map → Held → TasksFault → Type 0
TellsLine d k h WriteFault = Unit {0}
TellsLine d k h (TooLong task) = (h.node ≡ task) × IsLong d k h
TellsLine d k h NoMemory = Unit {0}

-- where a line is too long it is that of this task, which is held and asked for
abbrev pub TellsTask : Grammar → View → Site → TasksFault → Type 0
TellsTask d v s WriteFault = Unit {0}
TellsTask d v s (TooLong task) = (h : Held) × Member h s.held × (is_asked v h.node h.state ≡ true) × (h.node ≡ task) × IsLong d s.equations h
TellsTask d v s NoMemory = Unit {0}

-- where a line is too long that is told with the node, if there is memory for its name
abbrev pub TellsFault : program.Held → PrintFault → TasksFault → Type 0
TellsFault h print.TooLarge fault = (fault ≡ TooLong h.node) ⊎ (fault ≡ NoMemory)
TellsFault h print.NoMemory fault = fault ≡ NoMemory

-- no line is too long
abbrev pub IsNoLine : Result Unit TasksFault → Type 0
IsNoLine (Ok done) = Unit {0}
IsNoLine (Err WriteFault) = Unit {0}
IsNoLine (Err (TooLong task)) = Never
IsNoLine (Err NoMemory) = Unit {0}

-- no write failed
abbrev pub IsNoWrite : Result Unit TasksFault → Type 0
IsNoWrite (Ok done) = Unit {0}
IsNoWrite (Err WriteFault) = Never
IsNoWrite (Err (TooLong task)) = Unit {0}
IsNoWrite (Err NoMemory) = Unit {0}

-- what prints lines is fit to print the next one of this workspace, and little is left to be written
pub record IsReady {W : Type 0} (f : Ghosts W) (w : W) (d : Grammar) (lines : Lines) : Type 0 where
  pub named : lines.names.grammar.now ≡ d
  pub keeps : f.keeps w d lines.report lines.printer
  pub limit : lines.report.limit ≡ room_limit
  pub short : length lines.report.text ≤ piece

-- Whatever the line of the node at this place is, it was printed into the report, and where it is too long that is told.
pub record PrintsTask {W : Type 0} (f : Ghosts W) (w : W) (d : Grammar) (place : ℕ) (old new : Bounded) (result : Result Unit TasksFault) : Type 0 where
  pub text : (h : Held) → slice_get (f.seen w).held place ≡ Some h → (text : List ℕ) → IsLine d (f.seen w).equations h text →
      OnOk result (new ≡ printed old text)
  pub long : (h : Held) → slice_get (f.seen w).held place ≡ Some h → IfErr result (TellsLine d (f.seen w).equations h)

-- Whatever is printed of the node at this place, it was handed on behind what was left, and where it is too long that is told.
pub record HandsTask {W : Type 0} (f : Ghosts W) (w : W) (d : Grammar) (v : View) (place : ℕ) (before left : List ℕ) (old now : Option (List ℕ))
    (result : Result Unit TasksFault) : Type 0 where
  pub text : (h : Held) → slice_get (f.seen w).held place ≡ Some h → (text : List ℕ) → IsTold d v (f.seen w).equations h text →
      Hands old now (before ++ text) left result
  pub long : IfErr result (TellsTask d v (f.seen w))

-- Whatever is printed of the nodes, it was handed on behind what was left, and where a line is too long that is told.
pub record HandsTasks {W : Type 0} (f : Ghosts W) (w : W) (d : Grammar) (v : View) (before left : List ℕ) (old now : Option (List ℕ))
    (result : Result Unit TasksFault) : Type 0 where
  pub text : (texts : List (List ℕ)) → Pairs (IsTold d v (f.seen w).equations) (f.seen w).held texts →
      Hands old now (before ++ concat texts) left result
  pub long : IfErr result (TellsTask d v (f.seen w))

-- Whatever is printed of the nodes, it was written, and where a line is too long that is told.
pub record WritesLines {W : Type 0} (f : Ghosts W) (w : W) (d : Grammar) (v : View) (old now : Option (List ℕ))
    (result : Result Unit TasksFault) : Type 0 where
  pub text : (texts : List (List ℕ)) → Pairs (IsTold d v (f.seen w).equations) (f.seen w).held texts → Writes old now (concat texts) result
  pub long : IfErr result (TellsTask d v (f.seen w))
