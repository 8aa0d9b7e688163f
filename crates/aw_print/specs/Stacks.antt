-- What is left to be printed of a value stands on a stack, beside a table of texts that were printed whole.
use Rattle.std.specs.Prelude.{◌≡◌, ℕ, ◌+◌, ◌*◌, ◌<◌, ◌≤◌, ◌⊎◌, List, [], ◌∷◌, ◌++◌, length, map, drop, codes, Option, None, Some, Result, slice_get, slice_range}
use Rattle.aw_term.specs.Trees.{Never, Head, Con}
use Rattle.aw_term.specs.Names.{Ref}
use Rattle.aw_term.specs.Artifacts.{Words}
use Rattle.aw_grammar.specs.declared.grammar.Grammar as made_of
use Rattle.aw_grammar.specs.GrammarOf.{words_of}
use Rattle.aw_store.specs.Equations.{Is, Map}
use Rattle.aw_store.specs.NamedRefs.{body_at, parts_at}
use Rattle.aw_store.specs.Chase.{Chased, Found, chase}
use Rattle.aw_out.specs.Report.{Bounded}
use Rattle.aw_out.specs.declared.error.PrintFault.{PrintFault}
use Rattle.aw_print.specs.declared.stack.Piece.{Piece}
use Rattle.aw_print.specs.declared.stack.Piece.TheVariants.{First, Next, Close}
use Rattle.aw_print.specs.declared.stack.Span.{Span}
use Rattle.aw_print.specs.declared.stack.Printer.{Printer}
use Rattle.aw_print.specs.declared.ends.Ends.{Ends}
use Rattle.aw_print.specs.Ends.{AreEnds, KeepsNone}
use Rattle.aw_print.specs.Drafts.{Draft, Whole, then, following, listed, draft_on, draft}
use Rattle.aw_print.specs.Growing.{LeadTo, Printing, printing, made, PutsTo}

-- what a slot names, so many constructors deep
abbrev pub named_draft : ℕ → Words → Map → Option Ref → Draft
named_draft n w k None = Whole []
named_draft n w k (Some r) = draft n w k r

-- what a piece stands for, so many constructors deep
abbrev pub piece_draft : ℕ → Words → Map → List Ref → Piece → Draft
piece_draft n w k names (First s) = named_draft n w k (slice_get names s)
piece_draft n w k names (Next s) = then (Whole (codes ", ")) (named_draft n w k (slice_get names s))
piece_draft n w k names (Close s from) = Whole (codes ")")

-- all pieces, the last one first
abbrev pub pending : ℕ → Words → Map → List Ref → List Piece → Draft
pending n w k names [] = Whole []
pending n w k names (p ∷ ps) = then (pending n w k names ps) (piece_draft n w k names p)

-- the slot of a piece is one of the store
abbrev pub IsLive : List Ref → Piece → Type 0
IsLive names (First s) = s < length names
IsLive names (Next s) = s < length names
IsLive names (Close s from) = Unit {0}

-- each slot on the stack is one of the store
abbrev pub AreLive : List Ref → List Piece → Type 0
AreLive names [] = Unit {0}
AreLive names (p ∷ ps) = IsLive names p × AreLive names ps

-- what printing reads: the words of a grammar, the equations of a store and the names of its slots
pub record Origin : Type 0 where
  pub words : Words
  pub equations : Map
  pub names : List Ref

-- what printing reads from a grammar and a store
abbrev pub origin : made_of.Grammar → Map → List Ref → Origin
origin g k names = record { words = words_of g; equations = k; names = names }

-- the texts that are kept, and where chases end
pub record Table : Type 0 where
  pub spans : List (Option Span)
  pub ends : Ends

-- what was printed so far, the pieces that are left, and what is kept
pub record Desk : Type 0 where
  pub printing : Printing
  pub pieces : List Piece
  pub table : Table

-- the desk with this text gathered, this report and this printer
abbrev pub desk : List ℕ → Bounded → Printer → Desk
desk gathered report printer = record { printing = printing gathered report; pieces = printer.pieces.items; table = record { spans = printer.spans.items; ends = printer.ends } }

-- what the pieces of a stack stand for
abbrev pub pieces_draft : Origin → List Piece → ℕ → Draft
pieces_draft o ps n = pending n o.words o.equations o.names ps

-- what is left on the stack of a printer
abbrev pub stack_draft : Origin → Printer → ℕ → Draft
stack_draft o printer = pieces_draft o printer.pieces.items

-- the text of a constructor that began behind so many bytes is what was made since then, the pieces above its end, and its end
abbrev pub begun_draft : Origin → List ℕ → ℕ → List Piece → ℕ → Draft
begun_draft o bytes from above n = then (Whole (drop from bytes)) (then (pieces_draft o above n) (Whole (codes ")")))

-- a piece is a part of a constructor, and no end
abbrev pub IsPart : Piece → Type 0
IsPart (First s) = Unit {0}
IsPart (Next s) = Unit {0}
IsPart (Close s from) = Never

-- each piece is a part
abbrev pub AreParts : List Piece → Type 0
AreParts [] = Unit {0}
AreParts (p ∷ ps) = IsPart p × AreParts ps

-- Where a piece is the end of a constructor, these bytes have its front, and the pieces above it the rest.
abbrev pub IsOpen : Origin → List ℕ → Piece → List Piece → Type 0
IsOpen o bytes (First s) above = Unit {0}
IsOpen o bytes (Next s) above = Unit {0}
IsOpen o bytes (Close s from) above = (from ≤ length bytes) × ((r : Ref) → slice_get o.names s ≡ Some r → LeadTo (begun_draft o bytes from above) (λ n. draft n o.words o.equations r))

-- so it is for each piece of a stack, of which the first stands lowest
abbrev pub AreOpen : Origin → List ℕ → List Piece → Type 0
AreOpen o bytes [] = Unit {0}
AreOpen o bytes (p ∷ ps) = IsOpen o bytes p ps × AreOpen o bytes ps

-- the whole text of what the slot names stands among these bytes
pub record IsKept (o : Origin) (bytes : List ℕ) (span : Span) : Type 0 where
  pub order : span.from ≤ span.until
  pub within : span.until ≤ length bytes
  pub text : (r : Ref) → slice_get o.names span.slot ≡ Some r → (m : ℕ) × (draft m o.words o.equations r ≡ Whole (slice_range bytes span.from span.until))

-- a table has this span
abbrev pub Holds : List (Option Span) → Span → Type 0
Holds spans span = (i : ℕ) × (slice_get spans i ≡ Some (Some span))

-- Each text of the table stands where it is said, and chases end where it is said.
pub record AreKept (o : Origin) (d : Desk) : Type 0 where
  pub texts : (span : Span) → Holds d.table.spans span → IsKept o (made d.printing) span
  pub ends : AreEnds o.equations o.names d.table.ends

-- What is left on the stack is known, and what the table has.
pub record IsSound (o : Origin) (d : Desk) : Type 0 where
  pub live : AreLive o.names d.pieces
  pub ends : AreOpen o (made d.printing) d.pieces
  pub kept : AreKept o d

-- It is known also with this piece on top.
abbrev pub IsSoundWith : Origin → Piece → Desk → Type 0
IsSoundWith o piece d = IsSound o (record d { pieces = d.pieces ++ piece ∷ [] })

-- no piece is left
abbrev pub IsAtRest : Origin → Desk → Type 0
IsAtRest o d = (d.pieces ≡ []) × AreKept o d

-- Between two lines no piece is left, and what a printer keeps is so: each text stands in this report where it is said, and chases over
-- these equations end where it is said.
abbrev pub IsReady : made_of.Grammar → Map → List Ref → Bounded → Printer → Type 0
IsReady g k names report printer = IsAtRest (origin g k names) (desk [] report printer)

-- no piece is left, and nothing is kept
pub record IsNew (printer : Printer) : Type 0 where
  pub pieces : printer.pieces.items ≡ []
  pub spans : printer.spans.items ≡ []
  pub ends : KeepsNone printer.ends

-- the bytes at a span, if there is one
abbrev pub copied : List ℕ → Option Span → List ℕ
copied bytes None = []
copied bytes (Some span) = slice_range bytes span.from span.until

-- the span, if there is one, is within these bytes
abbrev pub IsWithin : List ℕ → Option Span → Type 0
IsWithin bytes None = Unit {0}
IsWithin bytes (Some span) = (span.from ≤ span.until) × (span.until ≤ length bytes)

-- Pieces were noted that stand for these drafts.
pub record Notes (o : Origin) (all : ℕ → Draft) (before after : List Piece) : Type 0 where
  pub added : List Piece
  pub stack : after ≡ before ++ added
  pub drafts : (n : ℕ) → pieces_draft o added n ≡ all n
  pub live : AreLive o.names added
  pub parts : AreParts added

-- what a reference stands for, by where its chase ends
abbrev pub end_draft : Origin → Ref → Chased → ℕ → Draft
end_draft o r end n = draft_on o.words (draft n o.words o.equations) r end

-- the parts behind the first
abbrev pub following_behind : (Ref → Draft) → List Ref → Draft
following_behind part [] = Whole []
following_behind part (r ∷ rs) = following (map part rs)

-- the parts behind the first of the constructor at a slot were noted, whatever the words
abbrev pub NotesLater : Map → List Ref → ℕ → List Piece → List Piece → Type 0
NotesLater k names at before after =
    (w : Words) → Notes (record { words = w; equations = k; names = names }) (λ n. following_behind (draft n w k) (parts_at k names at)) before after

-- all parts of the constructor at a slot were noted, whatever the words
abbrev pub NotesParts : Map → List Ref → ℕ → List Piece → List Piece → Type 0
NotesParts k names at before after =
    (w : Words) → Notes (record { words = w; equations = k; names = names }) (λ n. listed (map (draft n w k) (parts_at k names at))) before after

-- A text was begun: its front was gathered, and pieces were noted for the rest, or the rest stands where it can be copied.
-- A piece is worth less than 300 bytes of work.
pub record Begun (o : Origin) (all : ℕ → Draft) (again : Option Span) (old new : Desk) : Type 0 where
  pub out : List ℕ
  pub gathered : new.printing.gathered ≡ old.printing.gathered ++ out
  pub report : new.printing.report ≡ old.printing.report
  pub within : IsWithin (made new.printing) again
  pub added : List Piece
  pub stack : new.pieces ≡ old.pieces ++ added
  pub leads : LeadTo (λ n. then (Whole (out ++ copied (made new.printing) again)) (pieces_draft o added n)) all
  pub live : AreLive o.names added
  pub ends : AreOpen o (made new.printing ++ copied (made new.printing) again) added
  pub kept : AreKept o new
  pub work : length new.pieces ≤ length old.pieces + 300 * length out

-- the text of each reference whose chase ends at this constructor was begun
abbrev pub OpensCon : Origin → ℕ → ℕ → Option Span → Desk → Desk → Type 0
OpensCon o at con again old new = (r : Ref) → Begun o (end_draft o r (Found (Con con) (parts_at o.equations o.names at))) again old new

-- the text of each reference whose chase ends at this slot was begun
abbrev pub OpensBody : Origin → ℕ → Option Span → Desk → Desk → Type 0
OpensBody o at again old new = (r : Ref) (h : Head) (rs : List Ref) → body_at o.equations o.names at ≡ Some (Is h rs) → Begun o (end_draft o r (Found h rs)) again old new

-- the text of what the slot names was begun
abbrev pub OpensSlot : Origin → ℕ → Option Span → Desk → Desk → Type 0
OpensSlot o slot again old new = (r : Ref) → slice_get o.names slot ≡ Some r → Begun o (end_draft o r (chase o.equations r)) again old new

-- The end of the constructor at a slot was gathered, and where its text stands may be kept.
pub record Closes (slot from : ℕ) (again : Option Span) (old new : Desk) : Type 0 where
  pub none : again ≡ None
  pub gathered : new.printing.gathered ≡ old.printing.gathered ++ codes ")"
  pub report : new.printing.report ≡ old.printing.report
  pub pieces : new.pieces ≡ old.pieces
  pub kept : (x : Span) → Holds new.table.spans x → (x ≡ record { slot = slot; from = from; until = length (made new.printing) }) ⊎ Holds old.table.spans x
  pub ends : new.table.ends ≡ old.table.ends

-- a piece was begun
abbrev pub BeginsPiece : Origin → Piece → Option Span → Desk → Desk → Type 0
BeginsPiece o piece again old new = Begun o (λ n. piece_draft n o.words o.equations o.names piece) again old new

-- of a piece and those below it so much was printed, or printing stopped
abbrev pub PutsPiece : Origin → Piece → Desk → Desk → Result Unit PrintFault → Type 0
PutsPiece o piece old new result =
    PutsTo (λ n. then (piece_draft n o.words o.equations o.names piece) (pieces_draft o old.pieces n)) old.printing new.printing (pieces_draft o new.pieces) result

-- Less is left to do: bytes were made, or the stack fell. What was gathered is short, and the report keeps its limit.
pub record IsLess (old new : Desk) : Type 0 where
  pub work : length new.pieces + 300 * length (made old.printing) ≤ length old.pieces + 300 * length (made new.printing)
  pub short : length new.printing.gathered < 4096
  pub within : length new.printing.report.text ≤ new.printing.report.limit
  pub limit : new.printing.report.limit ≡ old.printing.report.limit
