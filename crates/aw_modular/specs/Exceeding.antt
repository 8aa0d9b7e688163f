-- Pairs of offered sorts that are found though they are not declared, by the relations of the program.
use Rattle.std.specs.Prelude.{◌≡◌, true}
use Rattle.aw_base.specs.declared.declared.Triple.{Triple}
use Rattle.aw_term.specs.Trees.{Never}
use Rattle.aw_grammar.specs.GrammarOf.{grammar_of}
use Rattle.aw_iograph.specs.declared.io.Io.{Io}
use Rattle.aw_iograph.specs.Pairs.{Has}
use Rattle.aw_face.specs.Faces.{is_offered}
use Rattle.aw_modular.specs.Roles.{IsOf}
use Rattle.aw_modular.specs.declared.part.Part.{Part}

-- the pair is found and not among all that are declared, and of a sort of the role that is offered
abbrev pub IsLoose : Part → Io → Io → Triple → Type 0
IsLoose p all found t =
    Has found t.sort t.i t.j × (Has all t.sort t.i t.j → Never) × IsOf (grammar_of p.grammar) p.role t.sort × (is_offered t.sort p.faces.offers ≡ true)
