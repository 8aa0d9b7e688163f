use Rattle.std.proofs.Common.{sym, ◌∙◌, eqb-true, eq-eqb}
use Rattle.std.proofs.lemmas.Bool.{false≢true}
use Rattle.std.proofs.lemmas.Bool.Decides.{Decides-at}
use Rattle.aw_name.specs.SameRefs.{derived_ref_Decides}
use Rattle.aw_book_drive.proofs.causes.are_same_asks.Goals as goal

pub returns-then-eq : goal.returns-then-eq
returns-then-eq c =
    let r = Decides-at c.eq.result _ c.eq.ensures (derived_ref_Decides c.args.reference.now c.args.other.now) in
    (λ t. (r.0 c.if-eq.true, eqb-true c.args.from c.args.role t), λ z. eq-eqb c.args.from c.args.role z.1)

pub returns-else-eq : goal.returns-else-eq
returns-else-eq c =
    let r = Decides-at c.eq.result _ c.eq.ensures (derived_ref_Decides c.args.reference.now c.args.other.now) in
    (λ t. elim (false≢true (sym c.if-eq.false ∙ t)) [ ], λ z. r.1 z.0)
