-- What a line declares: its name and the names of its variables are names, and its texts are contents.
use Rattle.std.specs.Prelude.{◌≡◌, ◌++◌, true}
use Rattle.aw_spelling.specs.Spelling.{is_name}
use Rattle.aw_grammar.specs.Terms.{all_have_contents, are_names, results_of, terms_of}
use Rattle.aw_spec.specs.Lines.{Line, RoleLine, ConLine, SortLine, StartLine, OfferLine, UseLine, TypeLine, ShapeLine, CarryLine, DependsLine, FreeLine, RuleLine, ScheduleLine}

-- the names that a line declares are names, and the texts that it writes are contents
abbrev pub IsDeclared : Line → Type 0
IsDeclared (RoleLine name) = is_name name ≡ true
IsDeclared (ConLine name arity) = is_name name ≡ true
IsDeclared (SortLine name role takes gives) = is_name name ≡ true
IsDeclared (StartLine sort) = Unit {0}
IsDeclared (OfferLine sort) = Unit {0}
IsDeclared (UseLine role sort) = Unit {0}
IsDeclared (TypeLine name) = is_name name ≡ true
IsDeclared (ShapeLine con parts own) = Unit {0}
IsDeclared (CarryLine sort takes gives) = Unit {0}
IsDeclared (DependsLine sort i j) = Unit {0}
IsDeclared FreeLine = Unit {0}
IsDeclared (RuleLine rule) = (is_name rule.name ≡ true) × ((all_have_contents (terms_of rule) ≡ true) × (are_names (rule.params ++ results_of rule.children) ≡ true))
IsDeclared (ScheduleLine loads) = Unit {0}
