-- The state of a reader of terms, as the definitions speak of it.
use Rattle.std.specs.Prelude.{◌≡◌, map, reverse, Result, Ok, Err}
use Rattle.aw_grammar.specs.Written.{written_of}
use Rattle.aw_term_reader.specs.Terms as T
use Rattle.aw_term_reader.specs.declared.reader.Opened.{Opened}
use Rattle.aw_term_reader.specs.declared.reader.Expected.{Expected}
use Rattle.aw_term_reader.specs.declared.reader.Expected.TheVariants.{TermOrEnd, TermOnly, CommaOrEnd, BehindName}
use Rattle.aw_term_reader.specs.declared.reader.TermReader.{TermReader}
use Rattle.aw_term_reader.specs.declared.reader.Read.{Read}
use Rattle.aw_term_reader.specs.declared.reader.Read.TheVariants.{On, AtEnd}
use Rattle.aw_term_reader.specs.declared.unread.Unread.{Unread}
use Rattle.aw_term_reader.specs.declared.unread.Unread.TheVariants.{Form, NoMemory}

-- an open constructor of the program, with the terms that stand before it
abbrev pub opened_of : Opened → T.Opened
opened_of o = record { name = o.name; before = map written_of o.before }

-- what may come next in a reader of the program
abbrev pub expected_of : Expected → T.Expected
expected_of TermOrEnd = T.TermOrEnd
expected_of TermOnly = T.TermOnly
expected_of CommaOrEnd = T.CommaOrEnd
expected_of (BehindName name) = T.BehindName name

-- the constructor that was opened last stands last in the code
abbrev pub reading_of : TermReader → T.Reading
reading_of r = record { opened = map opened_of (reverse r.opened); terms = map written_of r.terms; expected = expected_of r.expected }

-- The answer is what a lexeme does, and the reader then, unless memory ran out.
abbrev pub Does : TermReader → Result Read Unread → T.Read → Type 0
Does r (Ok On) done = done ≡ T.On (reading_of r)
Does r (Ok AtEnd) done = done ≡ T.AtEnd (map written_of r.terms)
Does r (Err Form) done = done ≡ T.Misplaced
Does r (Err NoMemory) done = Unit {0}
