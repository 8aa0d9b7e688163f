use Rattle.std.proofs.Common.{rules, ◌≡◌, ◌∙◌, ◌<◌, ◌≤◌, get_or, length, ap, refl, subst, sym, arith}
use Rattle.std.specs.Prelude.{slice_set}
use Rattle.std.proofs.lemmas.Option.{slice_get_read}
use Rattle.aw_work.specs.Triples.{waiting_at}
use Rattle.aw_node_list.specs.InOrder.{done_at}
use Rattle.aw_standing.specs.declared.record.Record.{Record}
use Rattle.aw_standing.specs.KeptStates.{AreKept}
use Rattle.aw_standing.proofs.Places.{set_at}
use Rattle.aw_standing.proofs.DueLemmas.{others_fewer, others_wait_less}
use Rattle.aw_standing.proofs.Opening.{kept_closed}
use Rattle.aw_standing.proofs.kept.Kept.close.Goals as goal

pub returns-in-Some-clause-kept : goal.returns-in-Some-clause-kept
returns-in-Some-clause-kept c g row at done k names late here f =
    let ns = row.numbers in
    let xs = c.args.self.now.records.items in
    let n = c.args.number in
    let x = c.in-Some.entry.now in
    let y : Record = record { slots = x.slots; sort = x.sort; deep = x.deep; marks = c.shrink_to_fit.new.self } in
    let within : n < length xs = f.fits.known at n here in
    let value : x ≡ get_or xs n x = search rules in
    let old = slice_get_read xs (length xs) n x refl within value in
    subst (λ z. AreKept g (done_at done at row.items) k names late ns (slice_set xs n y) z) (sym c.drop_node.ensures.waiting)
    (kept_closed g names at n ns xs (slice_set xs n y) c.args.self.now.work.waiting x y here old (set_at xs n y within)
    (c.shrink_to_fit.ensures.items ∙ c.clear.ensures.items) refl refl refl row.items k late done f)

pub returns-in-Some-clause-room : goal.returns-in-Some-clause-room
returns-in-Some-clause-room c n w r = record {
  entries = r.entries;
  spare = omega (arith, r.spare, c.drop_node.ensures.spare, ap length c.drop_node.ensures.waiting, others_fewer c.args.number c.args.self.now.work.waiting);
}

pub returns-in_default-clause-kept : goal.returns-in_default-clause-kept
returns-in_default-clause-kept c g row at done k names late here f = absurd (omega (arith, f.fits.known at c.args.number here, c.in_default.ensures.item.3))

pub returns-in_default-clause-room : goal.returns-in_default-clause-room
returns-in_default-clause-room c n w r = record {
  entries = r.entries;
  spare = omega (arith, r.spare, c.drop_node.ensures.spare, ap length c.drop_node.ensures.waiting, others_fewer c.args.number c.args.self.now.work.waiting);
}

pub returns-in-Some-clause-fewer : goal.returns-in-Some-clause-fewer
returns-in-Some-clause-fewer c q = subst (λ z. waiting_at q z ≤ waiting_at q c.args.self.now.work.waiting) (sym c.drop_node.ensures.waiting)
    (others_wait_less q c.args.number c.args.self.now.work.waiting)

pub returns-in_default-clause-fewer : goal.returns-in_default-clause-fewer
returns-in_default-clause-fewer c q = subst (λ z. waiting_at q z ≤ waiting_at q c.args.self.now.work.waiting) (sym c.drop_node.ensures.waiting)
    (others_wait_less q c.args.number c.args.self.now.work.waiting)
