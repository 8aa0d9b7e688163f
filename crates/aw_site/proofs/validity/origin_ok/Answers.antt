use Rattle.std.proofs.Common.{◌≡◌, true, map, subst}
use Rattle.std.proofs.lemmas.Bool.{and_parts}
use Rattle.aw_grammar.specs.GrammarOf.{grammar_of}
use Rattle.aw_store.specs.EquationView.{equation_of}
use Rattle.aw_law_sites.specs.ValidNames.{equations_ok, call_ok, names_ok}
use Rattle.aw_space.specs.Spaces.{call_of}
use Rattle.aw_site_repeat.specs.Views.{kind_of}
use Rattle.aw_site.proofs.ParentRoles.{called_valid}
use Rattle.aw_site.proofs.validity.origin_ok.Goals as goal

pub is_called-requires : goal.is_called-requires
is_called-requires c =
    let g = grammar_of c.args.g.now in
    let call = call_of g c.in-Call.node c.in-Call.inherited in
    called_valid g call (and_parts (call_ok g call) (equations_ok g (map equation_of c.in-Call.load)) (subst (λ k. names_ok g (kind_of g k) ≡ true) c.in-Call.is c.requires)).0
