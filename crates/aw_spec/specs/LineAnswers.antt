-- What reading one line answers.
use Rattle.std.specs.Prelude.{◌≡◌, Result, Ok, Err}
use Rattle.aw_grammar.specs.GrammarOf.{declarations_of}
use Rattle.aw_grammar.specs.declared.fault.AddFault.{AddFault}
use Rattle.aw_grammar.specs.declared.fault.AddFault.TheVariants as add
use Rattle.aw_lex.specs.declared.token.LexFault.{LexFault}
use Rattle.aw_lex.specs.declared.token.LexFault.TheVariants as lex
use Rattle.aw_term_reader.specs.declared.unread.Unread.{Unread}
use Rattle.aw_term_reader.specs.declared.unread.Unread.TheVariants as unread
use Rattle.aw_spec.specs.declared.fault.SpecKind.TheVariants as kind
use Rattle.aw_spec.specs.declared.draft.LineFault.{LineFault}
use Rattle.aw_spec.specs.declared.draft.LineFault.TheVariants.{Bad, NoMemory}
use Rattle.aw_spec.specs.declared.draft.Draft.{Draft}
use Rattle.aw_spec.specs.declared.draft.AfterLine.{AfterLine}
use Rattle.aw_spec.specs.declared.draft.AfterLine.TheVariants as after
use Rattle.aw_spec.specs.Reading.{Spec, Step, On, Wrong, Stop, decl_kind}

-- a fault of a declaration, of tokens, or of a form, as one of the line
abbrev pub of_add : AddFault → LineFault
of_add (add.Bad kind) = Bad (decl_kind kind)
of_add add.NoMemory = NoMemory

-- a fault of tokens as one of the line
abbrev pub of_lex : LexFault → LineFault
of_lex (lex.Bad at) = Bad kind.Token
of_lex lex.NoMemory = NoMemory

-- a fault of a form as one of the line
abbrev pub of_unread : Unread → LineFault
of_unread unread.Form = Bad kind.Form
of_unread unread.NoMemory = NoMemory

-- what the lines so far say
abbrev pub spec_so_far : Draft → Spec
spec_so_far d = record { declared = declarations_of d.grammar; offers = d.faces.offers; uses = d.faces.uses; types = d.types; depends = d.depends; free = d.free }

-- The answer is what the line adds, and the draft then, unless memory ran out.
abbrev pub Adds : Draft → Result Unit LineFault → Step → Type 0
Adds draft (Ok done) comes = comes ≡ On (spec_so_far draft)
Adds draft (Err (Bad kind)) comes = comes ≡ Wrong kind
Adds draft (Err NoMemory) comes = Unit {0}

-- The answer is what the line says behind a specification, and the draft then, unless memory ran out.
abbrev pub Says : Spec → Draft → Result AfterLine LineFault → Step → Type 0
Says s draft (Ok after.Next) comes = comes ≡ On (spec_so_far draft)
Says s draft (Ok (after.End loads)) comes = (comes ≡ Stop loads) × (spec_so_far draft ≡ s)
Says s draft (Err (Bad kind)) comes = comes ≡ Wrong kind
Says s draft (Err NoMemory) comes = Unit {0}
