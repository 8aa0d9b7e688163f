use Rattle.std.proofs.Common.{◌∙◌, sym, ap, option_map}
use Rattle.aw_sched.proofs.ByteFronts.{quoted_says}
use Rattle.aw_sched.proofs.front.text_front.Goals as goal

pub returns-in-Some : goal.returns-in-Some
returns-in-Some c =
    let found = c.in-Some.found in
    quoted_says c.args.bytes.now found.1.now found.0 (sym c.in_ok-found.ensures ∙ ap (option_map (λ text. (text.0, text.1.now))) c.in-Some.is)
