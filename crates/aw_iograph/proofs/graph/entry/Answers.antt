use Rattle.std.proofs.Common.{sym, ap, ◌∙◌, slice_get, Option, None}
use Rattle.aw_term.proofs.Gets.{get_some, get_none}
use Rattle.aw_iograph.specs.declared.occ.Occ.{Occ}
use Rattle.aw_iograph.proofs.graph.entry.Goals as goal

pub returns-in-Some : goal.returns-in-Some
returns-in-Some c = sym (get_some {A = Option Occ} None c.args.entries.now c.args.variable c.in-Some.at.now (ap (slice_get c.args.entries.now) (sym c.from.ensures) ∙ sym c.in-Some.ensures.value))

pub returns-in-None : goal.returns-in-None
returns-in-None c = sym (get_none {A = Option Occ} None c.args.entries.now c.args.variable (ap (slice_get c.args.entries.now) (sym c.from.ensures) ∙ sym c.in-None.ensures.value))
