use Rattle.std.proofs.Common.{◌∙◌, sym}
use Rattle.std.proofs.lemmas.Option.{slice_get_within}
use Rattle.aw_node_list.proofs.InOrderLemmas.{place_found}
use Rattle.aw_node_list.proofs.placing.is_at.Goals as goal

pub returns-in-Some-clause-place : goal.returns-in-Some-clause-place
returns-in-Some-clause-place c =
    λ e. place_found c.args.held.now.items c.args.node.now c.args.place c.in-Some.h.now c.requires (sym c.in-Some.ensures) (sym c.is_node.ensures ∙ e)

pub returns-in-Some-clause-within : goal.returns-in-Some-clause-within
returns-in-Some-clause-within c = λ _. slice_get_within c.args.held.now.items c.args.place c.in-Some.h.now (sym c.in-Some.ensures)
