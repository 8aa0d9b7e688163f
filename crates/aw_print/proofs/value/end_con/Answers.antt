use Rattle.std.proofs.Common.{◌≡◌, ℕ, refl, subst}
use Rattle.std.specs.Prelude.{◌⊎◌}
use Rattle.aw_print.specs.Stacks.{Holds}
use Rattle.aw_print.specs.declared.stack.Span.{Span}
use Rattle.aw_print.proofs.value.end_con.Goals as goal

pub returns : goal.returns
returns c =
    let span : ℕ → Span = λ n. record { slot = c.args.slot; from = c.args.from; until = n } in
    record {
      none = refl;
      gathered = c.in_ok-push.ensures.ok;
      report = refl;
      pieces = c.keep.ensures.pieces;
      kept = λ x h. subst (λ n. (x ≡ span n) ⊎ Holds c.args.printer.now.spans.items x) c.count_made-until.ensures (c.in_ok-keep.ensures.spans x h);
      ends = c.keep.ensures.ends;
    }
