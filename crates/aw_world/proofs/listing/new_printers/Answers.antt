use Rattle.std.proofs.Common.{◌∷◌, [], ap, subst, sym, length, length-append, arith}
use Rattle.aw_world.proofs.Printers.{AreNew, new_more, keep_new}
use Rattle.aw_world.proofs.listing.new_printers.Goals as goal

pub loop-i-preserved : goal.loop-i-preserved
loop-i-preserved g c = record {
  bound = omega (arith, c.loop-i-test.true);
  count = omega (arith, ap length c.in_ok-push.ensures.items, length-append c.loop-i.printers.items (c.new.result ∷ []), c.loop-i.invariant.count);
  new = subst AreNew (sym c.in_ok-push.ensures.items) (new_more c.loop-i.printers.items c.new.result c.loop-i.invariant.new c.new.ensures.new);
}

pub returns : goal.returns
returns g c = λ d report.
    keep_new g.W.Workspace g.met.W.Workspace.keeps_none d report c.args.sites.now c.loop-i.printers.items
    (omega (arith, c.loop-i.invariant.count, c.loop-i.invariant.bound, c.loop-i-test.false)) c.loop-i.invariant.new
