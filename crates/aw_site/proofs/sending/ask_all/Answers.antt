use Rattle.std.proofs.Common.{◌∙◌}
use Rattle.std.proofs.Math.Bool.{or-false}
use Rattle.aw_site.proofs.Noting.{asked_next}
use Rattle.aw_site.proofs.sending.ask_all.Goals as goal

pub loop-r-init : goal.loop-r-init
loop-r-init c = record {
  asked = λ asked shows x. or-false (asked x) ∙ shows x;
  watched = λ ws shows. shows;
  ready = λ x h. h;
}

pub loop-r-preserved : goal.loop-r-preserved
loop-r-preserved c = record {
  asked = λ asked shows. asked_next c.ask_ready.new.subs asked c.args.wanted.now c.loop-r.r-index c.r-item.result c.loop-r-test.true c.r-item.is
      (c.ask_ready.ensures.asked _ (c.loop-r.invariant.asked asked shows));
  watched = λ ws shows. c.ask_ready.ensures.watchers ws (c.loop-r.invariant.watched ws shows);
  ready = λ x h. c.ask_ready.ensures.ready x (c.loop-r.invariant.ready x h);
}
