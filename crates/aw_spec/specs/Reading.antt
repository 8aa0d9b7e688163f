-- Which specification a text spells, line by line, or the first line at fault.
use Rattle.std.specs.Prelude.{ℕ, suc, Bool, true, false, ◌&&◌, not, List, [], ◌∷◌, ◌++◌, length, Option, None, Some, is_some, Result, Ok, Err, nat_lt, nat_le, if◌then◌else◌}
use Rattle.aw_lex.specs.declared.token.Token.{Token}
use Rattle.aw_lex.specs.Tokens.{tokens_of}
use Rattle.aw_lex.specs.Lines.{passed_over}
use Rattle.aw_grammar.specs.declared.raw.RawCon.{RawCon}
use Rattle.aw_grammar.specs.declared.raw.RawSort.{RawSort}
use Rattle.aw_grammar.specs.declared.fault.DeclKind.{DeclKind}
use Rattle.aw_grammar.specs.declared.fault.DeclKind.TheVariants as decl
use Rattle.aw_grammar.specs.Written.{WrittenRule}
use Rattle.aw_grammar.specs.GrammarView.{sorts_of}
use Rattle.aw_name_index.specs.Places.{stands, number_of, place_of, first_told}
use Rattle.aw_grammar.specs.Declarations.{Declarations, no_declarations, con_names, sort_names, entry_of, with_role, with_con, with_sort, with_start, with_rule}
use Rattle.aw_grammar.specs.Kinds.{role_kind, con_kind, sort_kind, start_kind, rule_kind}
use Rattle.aw_base.specs.declared.declared.Triple.{Triple}
use Rattle.aw_typed.specs.declared.data.Shape.{Shape}
use Rattle.aw_typed.specs.declared.data.Carry.{Carry}
use Rattle.aw_typed.specs.declared.data.Types.{Types}
use Rattle.aw_term_reader.specs.Lexemes.{lexemes}
use Rattle.aw_face.specs.declared.faces.Using.{Using}
use Rattle.aw_face.specs.declared.faces.FaceKind.{FaceKind}
use Rattle.aw_face.specs.declared.faces.FaceKind.TheVariants as face
use Rattle.aw_face.specs.Faces.{is_offered, is_used, rule_fault}
use Rattle.aw_spec.specs.declared.fault.SpecKind.{SpecKind}
use Rattle.aw_spec.specs.declared.fault.SpecKind.TheVariants as kind
use Rattle.aw_spec.specs.declared.fault.SpecKind.TheVariants.{Form, Order, Limit, Double, Clash, Unknown, Arity, Twice, Never, Inherits, NotUsed, NotOffered}
use Rattle.aw_spec.specs.Lines.{Line, RoleLine, ConLine, SortLine, StartLine, OfferLine, UseLine, TypeLine, ShapeLine, CarryLine, DependsLine, FreeLine, RuleLine, ScheduleLine}
use Rattle.aw_spec.specs.ReadLine.{line_of}
use Rattle.aw_spec.specs.TypeLines.{no_types, type_names, shape_named, carry_named, declared_at, with_at, item_at, is_other_arity, are_other_counts, are_no_positions, is_dependence, with_dependence}
use Rattle.aw_spec.specs.Stages.{roles_stage, cons_stage, sorts_stage, starts_stage, offers_stage, uses_stage, types_stage, shapes_stage, carries_stage}
use Rattle.aw_spec.specs.Stages.{depends_stage, free_stage, rules_stage, end_stage}

-- what a specification says: its declarations, the sorts that are offered, which role uses which sort, the types,
-- which results may depend on which inherited values, and whether no tasks may wait for each other
pub record Spec : Type 0 where
  pub declared : Declarations
  pub offers : List ℕ
  pub uses : List Using
  pub types : Types
  pub depends : List Triple
  pub free : Bool

-- nothing is said yet
abbrev pub no_spec : Spec
no_spec = record { declared = no_declarations; offers = []; uses = []; types = no_types; depends = []; free = false }

-- the fault of a declaration, and of a child, as the kind of its line
abbrev pub decl_kind : DeclKind → SpecKind
decl_kind decl.Limit = Limit
decl_kind decl.Double = Double
decl_kind decl.Clash = Clash
decl_kind decl.Unknown = Unknown
decl_kind decl.Arity = Arity
decl_kind decl.Twice = Twice
decl_kind decl.Never = Never
decl_kind decl.Inherits = Inherits

-- the fault of a child, as the kind of its line
abbrev pub face_kind : FaceKind → SpecKind
face_kind face.NotUsed = NotUsed
face_kind face.NotOffered = NotOffered

-- what a line comes to
pub data Step : Type 0 where
  On : (spec : Spec) → Step
  Wrong : (kind : SpecKind) → Step
  Stop : (loads : Bool) → Step

-- a declaration, where nothing is wrong with it
abbrev pub declaring : Spec → Option DeclKind → Declarations → Step
declaring s None after = On (record s { declared = after })
declaring s (Some kind) after = Wrong (decl_kind kind)

-- a line at which this is told leads on to the specification after it where nothing is told
abbrev pub told_or : Spec → Option SpecKind → Step
told_or after None = On after
told_or after (Some kind) = Wrong kind

-- A line with these tests, the first of which that holds is told; where none holds it leads on to this.
abbrev pub tested : List (Bool × SpecKind) → Spec → Step
tested tests after = told_or after (first_told tests)

-- the number of the sort of this name
-- (past the last where none is declared, which is a fault of the line)
abbrev pub sort_number : Spec → List ℕ → ℕ
sort_number s name = number_of name (sort_names s.declared)

-- an offer: no sort of that name is declared, or it is offered already
abbrev pub offer_tests : Spec → List ℕ → List (Bool × SpecKind)
offer_tests s sort = (not (stands sort (sort_names s.declared)), Unknown) ∷ (is_offered (sort_number s sort) s.offers, Double) ∷ []

-- one sort more is offered, by its number
abbrev pub with_offer : Spec → List ℕ → Spec
with_offer s sort = record s { offers = s.offers ++ sort_number s sort ∷ [] }

-- a use: no role of that name is declared or no sort, or it is used by that role already
abbrev pub use_tests : Spec → List ℕ → List ℕ → List (Bool × SpecKind)
use_tests s role sort =
    (not (stands role s.declared.roles && stands sort (sort_names s.declared)), Unknown)
    ∷ (is_used (number_of role s.declared.roles) (sort_number s sort) s.uses, Double)
    ∷ []

-- one use more, with its role and its sort by number
abbrev pub with_use : Spec → List ℕ → List ℕ → Spec
with_use s role sort = record s { uses = s.uses ++ record { role = number_of role s.declared.roles; sort = sort_number s sort } ∷ [] }

-- a constructor or a sort more, of whose types nothing is declared
abbrev pub with_no_shape : Spec → Spec
with_no_shape s = record s { types = record s.types { shapes = s.types.shapes ++ None ∷ [] } }

-- a sort more, of whose types nothing is declared
abbrev pub with_no_carry : Spec → Spec
with_no_carry s = record s { types = record s.types { carries = s.types.carries ++ None ∷ [] } }

-- a type: 256 are declared, or one of that name stands already
abbrev pub type_tests : Spec → List ℕ → List (Bool × SpecKind)
type_tests s name = (nat_le 256 (length s.types.names), Limit) ∷ (stands name (type_names s.types), Double) ∷ []

-- one type more is declared
abbrev pub with_type : Spec → List ℕ → Spec
with_type s name = record s { types = record s.types { typed = true; names = s.types.names ++ name ∷ [] } }

-- the place of a constructor, and that of a sort
abbrev pub con_place : Spec → List ℕ → Option ℕ
con_place s name = place_of name (con_names s.declared)

-- the place of a sort, where one of that name is declared
abbrev pub sort_place : Spec → List ℕ → Option ℕ
sort_place s name = place_of name (sort_names s.declared)

-- a shape of the constructor at a place: it has one already, the constructor or a type is not declared, or it has another number of parts
abbrev pub shape_tests : Spec → Option ℕ → Option Shape → List (Bool × SpecKind)
shape_tests s at shape =
    (is_some (declared_at s.types.shapes at), Double)
    ∷ (not (is_some at && is_some shape), Unknown)
    ∷ (is_other_arity (item_at s.declared.cons at) shape, Arity)
    ∷ []

-- the constructor at this place has this shape
abbrev pub with_shape : Spec → Option ℕ → Option Shape → Spec
with_shape s at shape = record s { types = record s.types { typed = true; shapes = with_at s.types.shapes at shape } }

-- a carry of the sort at a place: it has one already, the sort or a type is not declared, or it has another number of inherited values or results
abbrev pub carry_tests : Spec → Option ℕ → Option Carry → List (Bool × SpecKind)
carry_tests s at carry =
    (is_some (declared_at s.types.carries at), Double)
    ∷ (not (is_some at && is_some carry), Unknown)
    ∷ (are_other_counts (item_at s.declared.sorts at) carry, Arity)
    ∷ []

-- the sort at this place has this carry
abbrev pub with_carry : Spec → Option ℕ → Option Carry → Spec
with_carry s at carry = record s { types = record s.types { typed = true; carries = with_at s.types.carries at carry } }

-- a dependence of the sort at a place: it stands already, the sort is not declared, or it has no such inherited value or result
abbrev pub depends_tests : Spec → Option ℕ → ℕ → ℕ → List (Bool × SpecKind)
depends_tests s at i j =
    (is_dependence s.depends at i j, Double)
    ∷ (not (is_some at), Unknown)
    ∷ (are_no_positions (item_at s.declared.sorts at) i j, Arity)
    ∷ []

-- one dependence more of the sort at this place
abbrev pub with_depends : Spec → Option ℕ → ℕ → ℕ → Spec
with_depends s at i j = record s { depends = with_dependence s.depends at i j }

-- a shape, a carry and a dependence, by places
abbrev pub shaping : Spec → Option ℕ → Option Shape → Step
shaping s at shape = tested (shape_tests s at shape) (with_shape s at shape)

-- what a line of a carry comes to
abbrev pub carrying : Spec → Option ℕ → Option Carry → Step
carrying s at carry = tested (carry_tests s at carry) (with_carry s at carry)

-- what a line of a dependence comes to
abbrev pub depending : Spec → Option ℕ → ℕ → ℕ → Step
depending s at i j = tested (depends_tests s at i j) (with_depends s at i j)

-- a line `free`: it stands already
abbrev pub free_tests : Spec → List (Bool × SpecKind)
free_tests s = (s.free, Double) ∷ []

-- the specification asks that no tasks ever wait for each other
abbrev pub with_free : Spec → Spec
with_free s = record s { free = true }

-- a rule that is declared, where no child is at fault
abbrev pub if_kept : Spec → Option (ℕ × FaceKind) → Step
if_kept s None = On s
if_kept s (Some fault) = Wrong (face_kind fault.1)

-- a rule whose declaration came to this: where it is declared, each child is of the same role or of a sort that is used and offered
abbrev pub keeping : Spec → WrittenRule → Step → Step
keeping s r (On after) = if_kept after (rule_fault (sorts_of s.declared.sorts) s.offers s.uses (entry_of s.declared r).rule)
keeping s r (Wrong kind) = Wrong kind
keeping s r (Stop loads) = Stop loads

-- what a line says behind those before it
abbrev pub says : Spec → Line → Step
says s (RoleLine name) = declaring s (role_kind s.declared name) (with_role s.declared name)
says s (ConLine name arity) =
    let con : RawCon = record { name = name; arity = arity } in declaring (with_no_shape s) (con_kind s.declared con) (with_con s.declared con)
says s (SortLine name role takes gives) =
    let sort : RawSort = record { name = name; role = role; takes = takes; gives = gives } in declaring (with_no_carry s) (sort_kind s.declared sort) (with_sort s.declared sort)
says s (StartLine sort) = declaring s (start_kind s.declared sort) (with_start s.declared sort)
says s (OfferLine sort) = tested (offer_tests s sort) (with_offer s sort)
says s (UseLine role sort) = tested (use_tests s role sort) (with_use s role sort)
says s (TypeLine name) = tested (type_tests s name) (with_type s name)
says s (ShapeLine con parts own) = shaping s (con_place s con) (shape_named (type_names s.types) parts own)
says s (CarryLine sort takes gives) = carrying s (sort_place s sort) (carry_named (type_names s.types) takes gives)
says s (DependsLine sort i j) = depending s (sort_place s sort) i j
says s FreeLine = tested (free_tests s) (with_free s)
says s (RuleLine rule) = keeping s rule (declaring s (rule_kind s.declared rule) (with_rule s.declared rule))
says s (ScheduleLine loads) = Stop loads

-- the place of a line's kind in the order of kinds; the last line stands anywhere
abbrev pub stage_of : Line → ℕ
stage_of (RoleLine name) = roles_stage
stage_of (ConLine name arity) = cons_stage
stage_of (SortLine name role takes gives) = sorts_stage
stage_of (StartLine sort) = starts_stage
stage_of (OfferLine sort) = offers_stage
stage_of (UseLine role sort) = uses_stage
stage_of (TypeLine name) = types_stage
stage_of (ShapeLine con parts own) = shapes_stage
stage_of (CarryLine sort takes gives) = carries_stage
stage_of (DependsLine sort i j) = depends_stage
stage_of FreeLine = free_stage
stage_of (RuleLine rule) = rules_stage
stage_of (ScheduleLine loads) = end_stage

-- What has been read: the specification so far, and the stage of the last line, or 0.
pub record Draft : Type 0 where
  pub spec : Spec
  pub stage : ℕ

-- what the bytes of a line come to, and the stage then
pub data LineRead : Type 0 where
  Next : (draft : Draft) → LineRead
  Fault : (kind : SpecKind) → LineRead
  End : (loads : Bool) → LineRead

-- what a line of this stage comes to, as what is read of it
abbrev pub at_stage : ℕ → Step → LineRead
at_stage stage (On spec) = Next (record { spec = spec; stage = stage })
at_stage stage (Wrong kind) = Fault kind
at_stage stage (Stop loads) = End loads

-- a line of an earlier kind than the last has no place here
abbrev pub in_order : Draft → Line → LineRead
in_order d line = if nat_lt (stage_of line) d.stage then Fault Order else at_stage (stage_of line) (says d.spec line)

-- what a line comes to, where its lexemes spell one
abbrev pub if_line : Draft → Option Line → LineRead
if_line d None = Fault Form
if_line d (Some line) = in_order d line

-- what a line comes to, where its bytes are tokens
abbrev pub if_tokens : Draft → List ℕ → Result (List Token) ℕ → LineRead
if_tokens d bytes (Err at) = Fault kind.Token
if_tokens d bytes (Ok tokens) = if_line d (line_of (lexemes bytes tokens))

-- a line that is passed over changes nothing
abbrev pub read_line : Draft → List ℕ → LineRead
read_line d bytes = if passed_over bytes then Next d else if_tokens d bytes (tokens_of bytes)

-- A specification, how many lines it takes with that of the word `schedule` where it stands, and whether that line asks for loads; or the first line at fault, counted from 1, and its first kind.
pub data Reading : Type 0 where
  Good : (spec : Spec) → (lines : ℕ) → (loads : Bool) → Reading
  Faulty : (line : ℕ) → (kind : SpecKind) → Reading

-- what comes of a line, where `more` reads on
abbrev pub after_line : Draft → ℕ → LineRead → (Draft → Reading) → Reading
after_line d line (Next draft) more = more draft
after_line d line (Fault kind) more = Faulty line kind
after_line d line (End loads) more = Good d.spec line loads

-- the lines behind those that were read; where no line ends the specification, no loads are asked for
abbrev pub read_lines : Draft → ℕ → List (List ℕ) → Reading
read_lines d read [] = Good d.spec read false
read_lines d read (line ∷ lines) = after_line d (suc read) (read_line d line) (λ next. read_lines next (suc read) lines)

-- nothing has been read yet
abbrev pub no_draft : Draft
no_draft = record { spec = no_spec; stage = 0 }

-- the specification that these lines spell, or the first of them at fault
abbrev pub specification : List (List ℕ) → Reading
specification lines = read_lines no_draft 0 lines
