-- Lines and specifications of the program as the definitions speak of them.
use Rattle.aw_grammar.specs.GrammarOf.{declarations_of}
use Rattle.aw_grammar.specs.Written.{rule_of_raw}
use Rattle.aw_spec.specs.declared.line.SpecLine.{SpecLine}
use Rattle.aw_spec.specs.declared.spec_text.SpecText.{SpecText}
use Rattle.aw_spec.specs.declared.line.SpecLine.TheVariants as line
use Rattle.aw_spec.specs.Lines as L
use Rattle.aw_spec.specs.Reading.{Spec}

-- a line of the program, with the terms of its rule as they are written
abbrev pub line_seen : SpecLine → L.Line
line_seen (line.Role name) = L.RoleLine name
line_seen (line.Con con) = L.ConLine con.name con.arity
line_seen (line.Sort sort) = L.SortLine sort.name sort.role sort.takes sort.gives
line_seen (line.Start sort) = L.StartLine sort
line_seen (line.Offer sort) = L.OfferLine sort
line_seen (line.Use role sort) = L.UseLine role sort
line_seen (line.NewType name) = L.TypeLine name
line_seen (line.Shape con parts own) = L.ShapeLine con parts own
line_seen (line.Carry sort takes gives) = L.CarryLine sort takes gives
line_seen (line.Depends sort i j) = L.DependsLine sort i j
line_seen line.Free = L.FreeLine
line_seen (line.Rule rule) = L.RuleLine (rule_of_raw rule)
line_seen (line.Schedule loads) = L.ScheduleLine loads

-- what a specification that was read says
abbrev pub spec_seen : SpecText → Spec
spec_seen s = record { declared = declarations_of s.grammar; offers = s.faces.offers; uses = s.faces.uses; types = s.types; depends = s.depends; free = s.free }
